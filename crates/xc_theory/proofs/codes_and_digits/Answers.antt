use Rattle.xc_theory.proofs.Codes.{digits_are_in_range, codes_are_in_range, digits_of_codes, codes_of_digits}
use Rattle.xc_theory.proofs.codes_and_digits.Goals as goal

pub returns-clause-digits_in_range : goal.returns-clause-digits_in_range
returns-clause-digits_in_range c = digits_are_in_range

pub returns-clause-codes_in_range : goal.returns-clause-codes_in_range
returns-clause-codes_in_range c = codes_are_in_range

pub returns-clause-digits_of_codes : goal.returns-clause-digits_of_codes
returns-clause-digits_of_codes c = digits_of_codes

pub returns-clause-codes_of_digits : goal.returns-clause-codes_of_digits
returns-clause-codes_of_digits c = codes_of_digits

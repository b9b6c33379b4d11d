use Rattle.std.proofs.Common.{length, refl, ◌∙◌, arith}
use Rattle.std.proofs.lemmas.List.{length-set}
use Rattle.xc_sigmap.specs.Maps.{value_of as map_of}
use Rattle.xc_merge.specs.MergedFrames.{prop_digit}
use Rattle.xc_merged.specs.Gathered.{merged_of}
use Rattle.xc_merged.proofs.Giving.{given_more, none_given, given_values, given_digits}
use Rattle.xc_merged.proofs.Merging.{row_read, viewpoint_count}
use Rattle.xc_merged.proofs.Sound.{map_parts}
use Rattle.xc_merged.proofs.merged.Merged.prop_digits.Goals as goal

pub places_of-places-requires-clause-fit : goal.places_of-places-requires-clause-fit
places_of-places-requires-clause-fit c = rw c.vars-vars.ensures (map_parts (map_of c.args.self.now.sigmap) c.is_sound.ensures).fit

pub loop-v-init : goal.loop-v-init
loop-v-init c = record { room = refl; given = none_given (merged_of c.args.self.now) (prop_digit (map_of c.args.self.now.sigmap) c.args.k c.args.s) _ }

pub bounds-digits-v : goal.bounds-digits-v
bounds-digits-v c = omega (arith, c.args.self.now.one_each, (map_parts (map_of c.args.self.now.sigmap) c.is_sound.ensures).few, c.len-v-end.ensures, c.loop-v-test.true)

pub loop-v-preserved : goal.loop-v-preserved
loop-v-preserved c =
    record {
      room = length-set c.loop-v.digits c.loop-v.v c.prop_digit.result ∙ c.loop-v.invariant.room;
      given =
          given_more (merged_of c.args.self.now) (prop_digit (map_of c.args.self.now.sigmap) c.args.k c.args.s) c.loop-v.v c.prop_digit.result c.loop-v.digits (omega (arith, c.loop-v.invariant.room, c.args.self.now.one_each, (map_parts (map_of c.args.self.now.sigmap) c.is_sound.ensures).few, c.len-v-end.ensures, c.loop-v-test.true)) c.loop-v.invariant.given
          (record { value = c.prop_digit.ensures.digit; below = c.prop_digit.ensures.below });
    }

pub returns-clause-values : goal.returns-clause-values
returns-clause-values c =
    given_values (merged_of c.args.self.now) (prop_digit (map_of c.args.self.now.sigmap) c.args.k c.args.s) c.loop-v.digits (length c.args.self.now.views) c.loop-v.v (viewpoint_count c.args.self.now.sigmap c.args.self.now.views) (omega arith) (omega (arith, c.loop-v.invariant.room, c.args.self.now.one_each, (map_parts (map_of c.args.self.now.sigmap) c.is_sound.ensures).few, c.len-v-end.ensures)) c.loop-v.invariant.given

pub returns-clause-digits : goal.returns-clause-digits
returns-clause-digits c =
    given_digits (merged_of c.args.self.now) (prop_digit (map_of c.args.self.now.sigmap) c.args.k c.args.s) c.loop-v.digits (length c.args.self.now.views) c.loop-v.v (viewpoint_count c.args.self.now.sigmap c.args.self.now.views) (omega arith) (omega (arith, c.loop-v.invariant.room, c.args.self.now.one_each, (map_parts (map_of c.args.self.now.sigmap) c.is_sound.ensures).few, c.len-v-end.ensures)) c.loop-v.invariant.given

pub prop_digit-requires-clause-row : goal.prop_digit-requires-clause-row
prop_digit-requires-clause-row c = (row_read (map_of c.args.self.now.sigmap) c.vars-vars.result.now c.places_of-places.result c.len.result c.args.s c.vars-vars.ensures c.len.ensures c.places_of-places.ensures)

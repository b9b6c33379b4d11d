use Rattle.xc_sigmap_text.specs.Printing.{map_lines}
use Rattle.xc_sigmap_lines.specs.MapFiles.{MapValue}
use Rattle.xc_words.specs.declared.asked.ShowKind.TheVariants as kinds
use Rattle.xc_course.proofs.Working.{works_passed}
use Rattle.xc_show.specs.Showing.{ShowTree, Shows}
use Rattle.xc_show.proofs.showing.show_map.Goals as goal

pub returns-in_err-sigmap : goal.returns-in_err-sigmap
returns-in_err-sigmap g c = works_passed (ShowTree kinds.Map c.args.name.now) _ _ _ _ _ _ c.from_residual.ensures.1 (c.in_err-sigmap.ensures.stops (λ (v : MapValue). Shows (map_lines v)) _)

pub returns : goal.returns
returns g c = c.in_ok-sigmap.ensures.goes_on (λ (v : MapValue). Shows (map_lines v)) _ _ _ _ (c.print_map.ensures (g.S.Shelf.seen c.open_map.new.shelf))

use Rattle.xc_view.specs.Printing.{view_lines}
use Rattle.xc_view.specs.ViewFiles.{ViewValue}
use Rattle.xc_words.specs.declared.asked.ShowKind.TheVariants as kinds
use Rattle.xc_course.proofs.Working.{works_passed}
use Rattle.xc_show.specs.Showing.{ShowTree, Shows}
use Rattle.xc_show.proofs.showing.show_view.Goals as goal

pub returns-in_err-view : goal.returns-in_err-view
returns-in_err-view g c = works_passed (ShowTree kinds.View c.args.name.now) _ _ _ _ _ _ c.from_residual.ensures.1 (c.in_err-view.ensures.stops (λ (v : ViewValue). Shows (view_lines v)) _)

pub returns : goal.returns
returns g c = c.in_ok-view.ensures.goes_on (λ (v : ViewValue). Shows (view_lines v)) _ _ _ _ (c.print_view.ensures (g.S.Shelf.seen c.open_view.new.shelf))

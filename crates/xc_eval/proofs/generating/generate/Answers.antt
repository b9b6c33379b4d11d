use Rattle.std.proofs.Common.{ap}
use Rattle.xc_base.specs.Shelves.{shelved}
use Rattle.xc_gen.specs.declared.side.Side.TheVariants.{Left, Right}
use Rattle.xc_gen.proofs.Lattices.{names_its_lattice}
use Rattle.xc_gen.proofs.Names.{are_named}
use Rattle.xc_gen.proofs.UsedViews.{uses_both_views}
use Rattle.xc_eval.proofs.GeneratedFiles.{generated_works, size_refused}
use Rattle.xc_eval.proofs.generating.generate.Goals as goal

pub returns-in-Ok : goal.returns-in-Ok
returns-in-Ok g c =
    generated_works c.args.number c.args.size (are_named c.args.number c.args.size) (uses_both_views c.args.size) (names_its_lattice Left c.args.number c.args.size) (names_its_lattice Right c.args.number c.args.size)
    _ _ _ _ _ c.in-Ok.ensures.within (ap shelved c.in-Ok.ensures.files) c.check.ensures

pub returns-in_ok-refused_size-in-Err-Size : goal.returns-in_ok-refused_size-in-Err-Size
returns-in_ok-refused_size-in-Err-Size g c =
    size_refused c.args.number c.args.size c.in-Err-Size.found c.in-Err-Size.field-0 c.in_ok-refused_size-in-Err-Size.field-0 (g.W.Sink.seen c.args.out.now) c.in-Err-Size.field-0-is c.in-Err-Size.ensures.err c.in_ok-refused_size-in-Err-Size.ensures

use Rattle.std.proofs.Common.{◌≡◌, drop, length, map}
use Rattle.xc_merge.specs.Merging.{viewpoint_of}
use Rattle.xc_stages.specs.Loaded.{OpensOn}
use Rattle.xc_stages.proofs.Chaining.{file_of}
use Rattle.xc_stages.proofs.viewpoints.open_viewpoints.Given as goal

abbrev pub invariant-loop-used : goal.invariant-loop-used
invariant-loop-used g l =
    (length l.views ≡ l.used-index) × OpensOn (map file_of l.used-items) (drop l.used-index (map file_of l.used-items)) (map viewpoint_of l.views) (g.S.Shelf.seen l.initial.shelf) (g.S.Shelf.seen l.shelf)

use Rattle.std.proofs.Common.{take}
use Rattle.xc_sigmap.specs.Maps.{value_of as map_of}
use Rattle.xc_merged.specs.Tabled.{AreFeeds}
use Rattle.xc_merged.proofs.feeds.feeds_of.Given as goal

abbrev pub invariant-loop-x : goal.invariant-loop-x
invariant-loop-x l = AreFeeds (map_of l.sigmap) l.number (take l.x l.vars) l.feeds

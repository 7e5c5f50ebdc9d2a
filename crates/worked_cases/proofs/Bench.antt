-- The listings, computed. Assumes nothing.
use Rattle.worked_cases.specs.Bench.{Finds, GapsForAll}

pub finds : Finds
unfolding Finds
finds = search

pub gaps_for_all : GapsForAll
unfolding GapsForAll
gaps_for_all = search

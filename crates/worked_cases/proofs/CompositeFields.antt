-- The listings, computed. Assumes nothing.
use Rattle.worked_cases.specs.CompositeFields.{PairsMade, RowsBehind, LonesCounted, HeardSpoiled}

pub pairs_made : PairsMade
unfolding PairsMade
pairs_made = search

pub rows_behind : RowsBehind
unfolding RowsBehind
rows_behind = search

pub lones_counted : LonesCounted
unfolding LonesCounted
lones_counted = search

pub heard_spoiled : HeardSpoiled
unfolding HeardSpoiled
heard_spoiled = search

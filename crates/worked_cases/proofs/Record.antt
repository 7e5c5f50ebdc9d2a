-- The listings, computed. Assumes nothing.
use Rattle.record.specs.Masks.{stored}
use Rattle.worked_cases.specs.Record.{NewTags, Addresses, Selections, Comparisons, Storings, Marks, States, Gaps}
use Rattle.worked_cases.specs.Record.{Likenesses}

pub new_tags : NewTags
unfolding NewTags
new_tags = search

pub addresses : Addresses
unfolding Addresses
addresses = search

pub selections : Selections
unfolding Selections
selections = search

pub comparisons : Comparisons
unfolding Comparisons
comparisons = search

pub storings : Storings
unfolding Storings stored
storings = search

pub marks : Marks
unfolding Marks
marks = search

pub states : States
unfolding States
states = search

pub gaps : Gaps
unfolding Gaps
gaps = search

pub likenesses : Likenesses
unfolding Likenesses
likenesses = search

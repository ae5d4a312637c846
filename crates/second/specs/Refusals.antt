-- The refusals' numbers in the table.
use Rattle.std.specs.Prelude.{ℕ, ◌≤◌, Option, None, Some, Result, IfErr}
use Rattle.second.specs.declared.refusals.Fault.{Fault}
use Rattle.second.specs.declared.refusals.Fault.TheVariants.{Short, Edition, Extent, Count, Kind, Name, Life, Empty, Work, List, Event, Out, Starts, Differ, Unsure, Flag, Stretch}

abbrev pub number_of : Fault → ℕ
number_of Short = 1
number_of Edition = 2
number_of Extent = 3
number_of Count = 4
number_of (Kind _) = 5
number_of (Name _) = 6
number_of (Life _) = 7
number_of (Empty _) = 8
number_of Work = 9
number_of (List _) = 10
number_of Event = 11
number_of Out = 12
number_of Starts = 13
number_of (Differ _ _) = 14
number_of Unsure = 15
number_of (Flag _) = 16
number_of Stretch = 17

-- The faulty record, where one is at fault.
abbrev pub record_of : Fault → Option ℕ
record_of (Kind r) = Some r
record_of (Name r) = Some r
record_of (Life r) = Some r
record_of (Empty r) = Some r
record_of (Flag r) = Some r
record_of _ = None

-- A refusal has a number of the table up to n.
abbrev pub RefusesUpTo : {A : Type 0} → ℕ → Result A Fault → Type 0
RefusesUpTo n r = IfErr r (λ f. number_of f ≤ n)

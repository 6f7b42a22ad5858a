-- What a verdict says of a capture and its expected output.
use Rattle.std.specs.Prelude.{◌≡◌, ℕ, List, Result, Ok, Err}
use Rattle.replay_scope.specs.Output.{replay_of}
use Rattle.test_replays.specs.declared.Differs.{Differs}

-- a capture that is called the same gives the expected output, all of it
abbrev pub Judged : List ℕ → List ℕ → Result (Unit {0}) Differs → Type 0
Judged capture expected (Ok _) = replay_of capture ≡ expected
Judged capture expected (Err _) = Unit {0}

-- How a step ends, from what its word says of stops: so the call `why` does no step. The vector registers have no part
-- in it, and the windows no more than their lengths.
use Rattle.std.specs.Prelude.{ℕ, List, length, Ok, Err, Some, None, Result, Option, ⊤}
use Rattle.state.specs.declared.stops.Stop.{Stop}
use Rattle.plan.specs.Ahead.{stop_ahead}
use Rattle.reading.specs.Ahead.{ahead_of}
use Rattle.reading.specs.Reading.{read_of}
use Rattle.state.specs.declared.board.Board.{Board}
use Rattle.state.specs.declared.control.Control.{Control}
use Rattle.state.specs.declared.stops.Stop.TheVariants.{NoWord}
use Rattle.state.specs.Fetch.{fetched}

abbrev pub end_at : Option ℕ → Board → List ℕ → List ℕ → List ℕ → Control → Result ⊤ Stop
end_at (Some x) b t g w c = stop_ahead (ahead_of (read_of x)) b (length t) g (length w) c
end_at None b t g w c = Err NoWord

abbrev pub end_of : List ℕ → Board → List ℕ → List ℕ → List ℕ → Control → Result ⊤ Stop
end_of p b t g w c = end_at (fetched p b.program c.pc) b t g w c

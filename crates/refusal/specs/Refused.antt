-- A refusal by its number and its place.
use Rattle.std.specs.Prelude.{ℕ, Err}
use Rattle.model.specs.Verdict.{Verdict}

abbrev pub refusal : ℕ → ℕ → Verdict
refusal n at = Err (record { number = n; place = at })

-- The first place of a walk that passes a test, as it is known on the way: none yet, or where it is. Nothing that is looked for stands at 0, by which the
-- definitions of `pcep_model` say that there is none.
use Rattle.std.specs.Prelude.{ℕ, Bool, cond, eqb, Option, None, Some}
use Rattle.std.specs.Option.{option_or}

abbrev pub placed : ℕ → Option ℕ
placed n = cond (eqb n 0) None (Some n)

-- what a step makes of it, where the thing at hand passes the test or not
abbrev pub noted : Bool → Option ℕ → ℕ → Option ℕ
noted hit a at = cond hit (option_or a (Some at)) a

-- A known object by its class and its least length, as the table of `pcep_laws` has them.
use Rattle.std.specs.Prelude.{ℕ, Bool, true, not, ◌&&◌, ◌||◌, eqb, leb, Option, None, Some}

-- END-POINTS, BANDWIDTH and METRIC have their least length alone
abbrev pub fits_known : ℕ → ℕ → ℕ → Bool
fits_known c least n = leb least n && (not (leb 4 c && leb c 6) || eqb n least)

-- what isn't known can have any length
abbrev pub fits : ℕ → Option ℕ → ℕ → Bool
fits c None n = true
fits c (Some least) n = fits_known c least n

abbrev pub class_if : Option ℕ → ℕ → Option ℕ
class_if None c = None
class_if (Some least) c = Some c

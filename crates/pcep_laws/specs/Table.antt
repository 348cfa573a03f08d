-- The table of known objects by class: each known one has type 1, and a class has one row, so a list of least lengths for each message says all.
use Rattle.std.specs.Prelude.{ℕ, Bool, not, cond, ◌&&◌, ◌||◌, List, [], ◌∷◌, get_or, eqb, leb}
use Rattle.pcep_model.specs.declared.MessageKind.{MessageKind}
use Rattle.pcep_model.specs.declared.MessageKind.TheVariants.{Pcreq, Pcrep}

-- the least length of the known object of each class, 0 where none is known
abbrev pub leasts : MessageKind → List ℕ
leasts Pcreq = 0 ∷ 0 ∷ 12 ∷ 0 ∷ 12 ∷ 8 ∷ 12 ∷ 0 ∷ 0 ∷ 0 ∷ 4 ∷ 0 ∷ 0 ∷ 0 ∷ 0 ∷ 0 ∷ 0 ∷ 8 ∷ []
leasts Pcrep = 0 ∷ 0 ∷ 12 ∷ 8 ∷ 0 ∷ 0 ∷ 12 ∷ 4 ∷ 0 ∷ 0 ∷ 0 ∷ 0 ∷ 0 ∷ 0 ∷ 0 ∷ 0 ∷ 0 ∷ 0 ∷ []

-- that of an object of this class and type, 0 where it isn't known
abbrev pub least_of : MessageKind → ℕ → ℕ → ℕ
least_of k c t = cond (eqb t 1) (get_or (leasts k) c 0) 0

-- END-POINTS, BANDWIDTH and METRIC have that length alone; what isn't known can have any
abbrev pub fits_least : ℕ → ℕ → ℕ → Bool
fits_least c least n = eqb least 0 || (leb least n && (not (leb 4 c && leb c 6) || eqb n least))

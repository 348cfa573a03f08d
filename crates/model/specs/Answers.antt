-- Document 01's number, and the other numbers beside it in the order of the C interface, for each case of each answer.
use Rattle.std.specs.Prelude.{ℕ, List, [], ◌∷◌, Result, Ok, Err}
use Rattle.std.specs.Float.{binary32}
use Rattle.std.specs.Float.Ieee.{to_bits}
use Rattle.model.specs.declared.Refusal.{Refusal}
use Rattle.model.specs.declared.Round.{Round}
use Rattle.model.specs.declared.Round.TheVariants.{First, Second}
use Rattle.model.specs.declared.ReadCounts.{ReadCounts}
use Rattle.model.specs.declared.BuiltTree.{BuiltTree}
use Rattle.model.specs.declared.PathAnswer.{PathAnswer}
use Rattle.model.specs.declared.PathAnswer.TheVariants as Path
use Rattle.model.specs.Verdict.{Verdict}

-- the number of the answer, and the other numbers: the place first
pub record Numbers : Type 0 where
  pub answer : ℕ
  pub others : List ℕ

-- on a refusal every number but the place is 0; a call gives one to four others
abbrev pub refused1 : Refusal → Numbers
refused1 r = record { answer = r.number; others = r.place ∷ [] }

abbrev pub refused2 : Refusal → Numbers
refused2 r = record { answer = r.number; others = r.place ∷ 0 ∷ [] }

abbrev pub refused3 : Refusal → Numbers
refused3 r = record { answer = r.number; others = r.place ∷ 0 ∷ 0 ∷ [] }

abbrev pub refused4 : Refusal → Numbers
refused4 r = record { answer = r.number; others = r.place ∷ 0 ∷ 0 ∷ 0 ∷ [] }

-- an answer 0 of tree, first and next, no other, names its round
abbrev pub round_number : Round → ℕ
round_number First = 1
round_number Second = 2

-- 0 done
abbrev pub done2 : ℕ → Numbers
done2 n = record { answer = 0; others = 0 ∷ n ∷ [] }

abbrev pub done3 : ℕ → ℕ → Numbers
done3 n m = record { answer = 0; others = 0 ∷ n ∷ m ∷ [] }

abbrev pub done4 : ℕ → ℕ → Round → Numbers
done4 n m x = record { answer = 0; others = 0 ∷ n ∷ m ∷ round_number x ∷ [] }

-- 1 no admissible path, 2 nothing greater
abbrev pub plain4 : ℕ → Numbers
plain4 n = record { answer = n; others = 0 ∷ 0 ∷ 0 ∷ 0 ∷ [] }

-- others: place
abbrev pub numbers_of_profile : Verdict → Numbers
numbers_of_profile (Ok _) = record { answer = 0; others = 0 ∷ [] }
numbers_of_profile (Err r) = refused1 r

-- others: place, how many domains, how many bytes of EXRS
abbrev pub numbers_of_read : Result ReadCounts Refusal → Numbers
numbers_of_read (Ok c) = done3 c.count c.exrs
numbers_of_read (Err r) = refused3 r

-- others: place, how many bytes
abbrev pub numbers_of_write : Result ℕ Refusal → Numbers
numbers_of_write (Ok n) = done2 n
numbers_of_write (Err r) = refused2 r

-- others: place, how many entries, tally, round
abbrev pub numbers_of_tree : Result BuiltTree Refusal → Numbers
numbers_of_tree (Ok t) = done4 t.entries t.tally t.round
numbers_of_tree (Err r) = refused4 r

-- others: place, total, bits of the total's float, round
abbrev pub numbers_of_path : Result PathAnswer Refusal → Numbers
numbers_of_path (Ok (Path.Found n f x)) = done4 n (to_bits binary32 f) x
numbers_of_path (Ok Path.NoPath) = plain4 1
numbers_of_path (Ok Path.End) = plain4 2
numbers_of_path (Err r) = refused4 r

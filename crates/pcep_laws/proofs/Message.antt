-- What a message whose frame passes has: an RP, and END-POINTS or an ERO or a NO-PATH. From the checks, one after the other.
use Prim.Native.Nat.{ℕ}
use mathlib.Core.Path.{◌≡◌}
use mathlib.Core.Bool.{false, ◌&&◌}
use mathlib.Core.List.{List}
use lib.Dec.{eqb}
use borrow.Author.Tests.{eqb-false}
use Rattle.model.specs.Verdict.{Pass, refuse_if, ◌and_then◌}
use Rattle.laws.proofs.Turns.{and_then_pass, refuse_if_pass}
use Rattle.pcep_model.specs.declared.MessageKind.{MessageKind}
use Rattle.pcep_model.specs.declared.MessageKind.TheVariants.{Pcreq, Pcrep}
use Rattle.pcep_model.specs.Objects.{RP, END-POINTS, ERO, NO-PATH, header_wrong, objects_verdict, body_verdict, message_verdict, first_object}

module _ (k : MessageKind) (s : List ℕ) (pass : message_verdict k s ≡ Pass) where
  parts
      : (refuse_if (header_wrong k s) 36 0 and_then objects_verdict k s 4 and_then refuse_if (eqb (first_object RP s) 0) 39 0 ≡ Pass) × (body_verdict k s ≡ Pass)
  unfolding message_verdict
  parts = (and_then_pass (refuse_if (header_wrong k s) 36 0 and_then objects_verdict k s 4 and_then refuse_if (eqb (first_object RP s) 0) 39 0) (body_verdict k s)).0 pass

  pub has_rp : first_object RP s ≡ 0 → ⊥
  has_rp = eqb-false (first_object RP s) 0 ((refuse_if_pass (eqb (first_object RP s) 0) 39 0).0 ((and_then_pass (refuse_if (header_wrong k s) 36 0 and_then objects_verdict k s 4) (refuse_if (eqb (first_object RP s) 0) 39 0)).0 parts.0).1)

  pub body-right : body_verdict k s ≡ Pass
  body-right = parts.1

pub has_ends : (s : List ℕ) → message_verdict Pcreq s ≡ Pass → first_object END-POINTS s ≡ 0 → ⊥
has_ends s pass = eqb-false (first_object END-POINTS s) 0 ((refuse_if_pass (eqb (first_object END-POINTS s) 0) 40 0).0 (body-right Pcreq s pass))

-- not both are missing
pub has_route : (s : List ℕ) → message_verdict Pcrep s ≡ Pass → (eqb (first_object ERO s) 0 && eqb (first_object NO-PATH s) 0) ≡ false
has_route s pass = (refuse_if_pass (eqb (first_object ERO s) 0 && eqb (first_object NO-PATH s) 0) 41 0).0 (body-right Pcrep s pass)

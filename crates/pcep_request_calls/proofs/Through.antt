-- A call through a PCReq is the frame's refusal, or the call on the request that is carried: one law for trees and one for paths.
use Rattle.std.specs.Prelude.{Result, Ok, Err}
use native.Mathlib.Omega.{arith}
use Rattle.model.specs.declared.PathAnswer.{PathAnswer}
use Prim.Native.Nat.{ℕ}
use mathlib.Core.Path.{◌≡◌, refl, sym, ap, subst}
use mathlib.Core.List.{List}
use Rattle.model.specs.Verdict.{Verdict, Pass}
use Rattle.model.specs.declared.Refusal.{Refusal}
use Rattle.model.specs.declared.TreeEntry.{TreeEntry}
use Rattle.model.specs.Calls.{Outcome}
use Rattle.laws.proofs.Lists.{over_nothing}
use Rattle.request.specs.CheckedRequest.{request_for}
use Rattle.tree_fields.specs.TreeResult.{TreeIn}
use Rattle.pcep_model.specs.Pcreq.{list_in, carried, behind}
use Rattle.pcep_request_reader.specs.declared.carried.CarriedRequest.{CarriedRequest}
use Rattle.pcep_request_reader.specs.Carried.{CarriedRequestIs}
use Rattle.pcep_request_calls.specs.Through.{PathIn}

module _ {A : Type 0} where
  behind-refused : (v : Verdict) (o : Outcome A) (x : Refusal) → v ≡ Err x → behind v o ≡ behind (Err x) o
  behind-refused v o x e = ap (λ (w : Verdict). behind w o) e

  pub behind-passed : (v : Verdict) (o : Outcome A) → v ≡ Pass → behind v o ≡ o
  behind-passed v o e = ap (λ (w : Verdict). behind w o) e

-- a refusal is no path
mark : Result PathAnswer Refusal → ℕ
mark (Ok a) = 0
mark (Err x) = 1

not_found : (x : Refusal) {a : PathAnswer} → Err x ≡ Ok a → ⊥
unfolding mark
not_found x e = let z : ◌≡◌ {A = ℕ} 1 0 = ap mark e in omega arith

pub path_refused : (v : Verdict) (o : Outcome ℕ) (path : List ℕ) (x : Refusal) → v ≡ Err x → PathIn (behind v o) path (Err x) path
path_refused v o path x e =
    subst (λ (b : Outcome ℕ). PathIn b path (Err x) path) (sym (behind-refused v o x e))
    (record { real = λ total y round f. absurd (not_found x f); numbers = refl; in_path = sym (over_nothing path) })

pub tree-refused
    : (v : Verdict) (o : Outcome TreeEntry) (levels addresses marks costs : List ℕ) (x : Refusal) → v ≡ Err x
    → TreeIn (behind v o) levels addresses marks costs (Err x) levels addresses marks costs
tree-refused v o levels addresses marks costs x e =
    subst (λ (b : Outcome TreeEntry). TreeIn b levels addresses marks costs (Err x) levels addresses marks costs) (sym (behind-refused v o x e))
    (record {
      numbers = refl;
      in_levels = sym (over_nothing levels);
      in_addresses = sym (over_nothing addresses);
      in_marks = sym (over_nothing marks);
      in_costs = sym (over_nothing costs);
    })

-- the request that a call is made on, with the lists as they were lent to it, is the one carried
pub same-request
    : (ingress : ℕ) (s : List ℕ) (r : CarriedRequest) → CarriedRequestIs ingress s r
    → (profile include exclude : List ℕ) → include ≡ list_in s r.include → exclude ≡ list_in s r.exclude
    → request_for profile r.asked include exclude ≡ carried profile ingress s
same-request ingress s r is profile include exclude i e = rw (i, e) (is.request profile)

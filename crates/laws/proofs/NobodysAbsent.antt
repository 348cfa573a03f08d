-- What an accepted request brings: no AS that is nobody's in its profile, in either list and in what its EXRS carry.
use Prim.Native.Nat.{ℕ, ◌+◌, ◌-◌, ◌<◌}
use native.Mathlib.Omega.{arith}
use mathlib.Core.Path.{◌≡◌, refl, sym, subst}
use mathlib.Core.Logic.{⊎_elim}
use mathlib.Core.Bool.{true, false}
use mathlib.Core.List.Memᴰ
use mathlib.Core.List.{List, Memᴰ}
use lib.ListN.{length}
use lib.Dec.{eqb}
use borrow.Author.Tests.{eqb-true}
use Rattle.model.specs.Verdict.{Pass}
use Rattle.model.specs.declared.ListKind.TheVariants.{Include, Exclude}
use Rattle.model.specs.Bytes.{part}
use Rattle.model.specs.Profile.{domain_count, domain_at}
use Rattle.model.specs.Along.{places_from}
use Rattle.model.specs.Subobject.{Named, Subobject, type_at, length_at, subobject_verdict, subobject_at, after_subobject, form_verdict, subobjects, inside_of}
use Rattle.model.specs.Sequence.{Stop}
use Rattle.model.specs.Request.{Request, layout_for, Accepted}
use Rattle.laws.proofs.Tests.{decide}
use Rattle.laws.proofs.Lists.{map_mem}
use Rattle.laws.proofs.Along.{passed}
use Rattle.laws.proofs.AcceptedRequest.{accepted-verdict, passed-request}
use Rattle.laws.proofs.Exrs.{named_33, no_33, inside-right, inside-bytes}
use Rattle.laws.proofs.Owned.{Owned}
use Rattle.laws.proofs.Nobodys.{profile_owned, NamesOwned, list_owned}

-- and what its EXRS carry
pub carried_owned : (s : List ℕ) → form_verdict Include s ≡ Pass → (x : Subobject) → Memᴰ x (subobjects s) → NamesOwned (inside_of x.names)
unfolding form_verdict subobjects
carried_owned s e x m =
    let place = map_mem (subobject_at s) (places_from (after_subobject s) (length s) 0) m in
    let at = place.0 in
    let right = passed (after_subobject s) (length s) (subobject_verdict Include s (length s)) (length s - 0) 0 e at place.1 in
    subst (λ (y : Subobject). NamesOwned (inside_of y.names)) (sym place.2)
    (⊎_elim
    (λ (t : eqb (type_at s at) 33 ≡ true).
    let kind = eqb-true (type_at s at) 33 t in
    subst (λ (y : Named). NamesOwned (inside_of y)) (sym (named_33 s at kind))
    (subst (λ (l : List ℕ). NamesOwned (subobjects l)) (sym (inside-bytes s at (length_at s at)))
    (list_owned Exclude (part s (at + 4) (length_at s at - 4)) (inside-right s (length s) at (omega arith) right kind))))
    (λ (f : eqb (type_at s at) 33 ≡ false).
    subst NamesOwned (sym (no_33 inside_of (λ a n. refl) (λ n. refl) (λ a. refl) s at f)) (λ y n. absurd (Memᴰ.not-nil n)))
    (decide (eqb (type_at s at) 33)))

-- ---- all that an accepted request brings

pub record NobodysAbsent (r : Request) : Type 0 where
  pub records : (i : ℕ) → i < domain_count r.profile → Owned (domain_at r.profile i).asn
  pub included : NamesOwned (subobjects r.include)
  pub carried : (x : Subobject) → Memᴰ x (subobjects r.include) → NamesOwned (inside_of x.names)
  pub excluded : NamesOwned (subobjects r.exclude)

pub nobodys_absent : (r : Request) (sequence : List Stop) → Accepted r sequence → NobodysAbsent r
nobodys_absent r sequence right =
    let p = passed-request r (accepted-verdict r sequence right) in
    record {
      records = profile_owned (layout_for r) r.profile p.profile;
      included = list_owned Include r.include p.include-form;
      carried = carried_owned r.include p.include-form;
      excluded = list_owned Exclude r.exclude p.exclude-form;
    }

-- How far the walk along a message's objects is: what is left decides, and with the places known so far it gives the first object of each known class.
use Rattle.std.specs.Prelude.{Err, Option, None, Some}
use Rattle.std.specs.Option.{option_or}
use Prim.Native.Nat.{ℕ, zero, suc, ◌≤◌, ◌<◌}
use native.Mathlib.Omega.{arith}
use mathlib.Core.Path.{◌≡◌, refl, sym, ap, subst, ◌∙◌}
use mathlib.Core.Bool.{Bool, true, false, cond, ◌&&◌}
use mathlib.Core.List.{List}
use lib.ListN.{length, get_or, set, replicate, length-set}
use mathlib.Core.Logic.{⊎_elim}
use lib.Dec.{eqb, ltb}
use borrow.Author.Tests.{eqb-true, eqb-false, ne_eqb, ltb-true, ltb-false}
use lib.Seq.{get_or-set_same, get_or-set_other}
use Rattle.model.specs.Verdict.{Pass}
use Rattle.model.specs.declared.Refusal.{Refusal}
use Rattle.laws.proofs.Tests.{decide, clash, and_all, and_none}
use Rattle.pcep_model.specs.declared.MessageKind.{MessageKind}
use Rattle.pcep_model.specs.declared.MessageKind.TheVariants.{Pcreq, Pcrep}
use Rattle.model.specs.Along.{first_of}
use Rattle.pcep_model.specs.Objects.{class_at, type_at, is_object, object_verdict, objects_verdict, objects_in, after_object, first_object}
use Rattle.pcep_laws.specs.Table.{leasts}
use Rattle.pcep_laws.proofs.Table.{far_least}
use Rattle.pcep_laws.specs.Firsts.{placed, noted}
use Rattle.laws.proofs.Along as Along
use Rattle.pcep_laws.proofs.Objects.{right_object, further, first_end, first_next, noted-kept, none-to_come}
use Rattle.pcep_message.specs.Known.{class_if}
use Rattle.pcep_message.specs.Walked.{class_known, first_at, objects_met, ObjectsPassed}

abbrev no-place : Option ℕ
no-place = None

abbrev mark : Option ℕ → ℕ
mark None = 0
mark (Some x) = 1

abbrev value : Option ℕ → ℕ
value None = 0
value (Some x) = x

-- no place is known at first
nothing-met : (n c : ℕ) → get_or (replicate n no-place) c no-place ≡ no-place
nothing-met zero c = refl
nothing-met (suc n) zero = refl
nothing-met (suc n) (suc c) = nothing-met n c

-- the place of a class that is known in the message has a name
by_class : (k : MessageKind) (met : List (Option ℕ)) (c : ℕ) → 0 < get_or (leasts k) c 0 → first_at (objects_met met) c ≡ get_or met c None
by_class Pcreq met zero h = absurd (omega arith)
by_class Pcreq met (suc zero) h = absurd (omega arith)
by_class Pcreq met (suc (suc zero)) h = refl
by_class Pcreq met (suc (suc (suc zero))) h = absurd (omega arith)
by_class Pcreq met (suc (suc (suc (suc zero)))) h = refl
by_class Pcreq met (suc (suc (suc (suc (suc zero))))) h = refl
by_class Pcreq met (suc (suc (suc (suc (suc (suc zero)))))) h = refl
by_class Pcreq met (suc (suc (suc (suc (suc (suc (suc zero))))))) h = absurd (omega arith)
by_class Pcreq met (suc (suc (suc (suc (suc (suc (suc (suc zero)))))))) h = absurd (omega arith)
by_class Pcreq met (suc (suc (suc (suc (suc (suc (suc (suc (suc zero))))))))) h = absurd (omega arith)
by_class Pcreq met (suc (suc (suc (suc (suc (suc (suc (suc (suc (suc zero)))))))))) h = refl
by_class Pcreq met (suc (suc (suc (suc (suc (suc (suc (suc (suc (suc (suc zero))))))))))) h = absurd (omega arith)
by_class Pcreq met (suc (suc (suc (suc (suc (suc (suc (suc (suc (suc (suc (suc zero)))))))))))) h = absurd (omega arith)
by_class Pcreq met (suc (suc (suc (suc (suc (suc (suc (suc (suc (suc (suc (suc (suc zero))))))))))))) h = absurd (omega arith)
by_class Pcreq met (suc (suc (suc (suc (suc (suc (suc (suc (suc (suc (suc (suc (suc (suc zero)))))))))))))) h = absurd (omega arith)
by_class Pcreq met (suc (suc (suc (suc (suc (suc (suc (suc (suc (suc (suc (suc (suc (suc (suc zero))))))))))))))) h = absurd (omega arith)
by_class Pcreq met (suc (suc (suc (suc (suc (suc (suc (suc (suc (suc (suc (suc (suc (suc (suc (suc zero)))))))))))))))) h = absurd (omega arith)
by_class Pcreq met (suc (suc (suc (suc (suc (suc (suc (suc (suc (suc (suc (suc (suc (suc (suc (suc (suc zero))))))))))))))))) h = refl
by_class Pcreq met (suc (suc (suc (suc (suc (suc (suc (suc (suc (suc (suc (suc (suc (suc (suc (suc (suc (suc c)))))))))))))))))) h = absurd (let e = far_least Pcreq (suc (suc (suc (suc (suc (suc (suc (suc (suc (suc (suc (suc (suc (suc (suc (suc (suc (suc c)))))))))))))))))) (omega arith) in omega arith)
by_class Pcrep met zero h = absurd (omega arith)
by_class Pcrep met (suc zero) h = absurd (omega arith)
by_class Pcrep met (suc (suc zero)) h = refl
by_class Pcrep met (suc (suc (suc zero))) h = refl
by_class Pcrep met (suc (suc (suc (suc zero)))) h = absurd (omega arith)
by_class Pcrep met (suc (suc (suc (suc (suc zero))))) h = absurd (omega arith)
by_class Pcrep met (suc (suc (suc (suc (suc (suc zero)))))) h = refl
by_class Pcrep met (suc (suc (suc (suc (suc (suc (suc zero))))))) h = refl
by_class Pcrep met (suc (suc (suc (suc (suc (suc (suc (suc zero)))))))) h = absurd (omega arith)
by_class Pcrep met (suc (suc (suc (suc (suc (suc (suc (suc (suc zero))))))))) h = absurd (omega arith)
by_class Pcrep met (suc (suc (suc (suc (suc (suc (suc (suc (suc (suc zero)))))))))) h = absurd (omega arith)
by_class Pcrep met (suc (suc (suc (suc (suc (suc (suc (suc (suc (suc (suc zero))))))))))) h = absurd (omega arith)
by_class Pcrep met (suc (suc (suc (suc (suc (suc (suc (suc (suc (suc (suc (suc zero)))))))))))) h = absurd (omega arith)
by_class Pcrep met (suc (suc (suc (suc (suc (suc (suc (suc (suc (suc (suc (suc (suc zero))))))))))))) h = absurd (omega arith)
by_class Pcrep met (suc (suc (suc (suc (suc (suc (suc (suc (suc (suc (suc (suc (suc (suc zero)))))))))))))) h = absurd (omega arith)
by_class Pcrep met (suc (suc (suc (suc (suc (suc (suc (suc (suc (suc (suc (suc (suc (suc (suc zero))))))))))))))) h = absurd (omega arith)
by_class Pcrep met (suc (suc (suc (suc (suc (suc (suc (suc (suc (suc (suc (suc (suc (suc (suc (suc zero)))))))))))))))) h = absurd (omega arith)
by_class Pcrep met (suc (suc (suc (suc (suc (suc (suc (suc (suc (suc (suc (suc (suc (suc (suc (suc (suc zero))))))))))))))))) h = absurd (omega arith)
by_class Pcrep met (suc (suc (suc (suc (suc (suc (suc (suc (suc (suc (suc (suc (suc (suc (suc (suc (suc (suc c)))))))))))))))))) h = absurd (let e = far_least Pcrep (suc (suc (suc (suc (suc (suc (suc (suc (suc (suc (suc (suc (suc (suc (suc (suc (suc (suc c)))))))))))))))))) (omega arith) in omega arith)

-- a place that is noted is the first of its class, unless there was one before
module _ (met : List (Option ℕ)) (o at : ℕ) (x : Option ℕ) (h : o < length met) (e : x ≡ option_or (get_or met o None) (Some at)) where
  noted_by_class : (c : ℕ) (b : Bool) → eqb o c ≡ b → get_or (set met o x) c None ≡ noted b (get_or met c None) at
  noted_by_class c true t =
      let same = eqb-true o c t in
      subst (λ (i : ℕ). get_or (set met o x) i None ≡ noted true (get_or met i None) at) same (get_or-set_same met o x None h ∙ e)
  noted_by_class c false f = get_or-set_other met o c x None (λ y. eqb-false o c f (sym y))

  noted_at : (c : ℕ) → get_or (set met o x) c None ≡ noted (eqb o c) (get_or met c None) at
  noted_at c = noted_by_class c (eqb o c) refl

module _ (k : MessageKind) (s : List ℕ) where
  abbrev here : ℕ → ℕ
  here at = class_at s at

  -- the class that the code goes by is that of the object, for every class known in the message
  module _ (at : ℕ) where
    some_by : (one none : Bool) (c o : ℕ) → eqb (type_at s at) 1 ≡ one → eqb (cond one (get_or (leasts k) (here at) 0) 0) 0 ≡ none
        → class_if (cond none None (Some (cond one (get_or (leasts k) (here at) 0) 0))) (here at) ≡ Some o → eqb o c ≡ is_object c s at
    some_by true true c o t e x = absurd (let z : ◌≡◌ {A = ℕ} 0 1 = ap mark x in omega arith)
    some_by false true c o t e x = absurd (let z : ◌≡◌ {A = ℕ} 0 1 = ap mark x in omega arith)
    some_by true false c o t e x = ap (λ (i : ℕ). eqb i c) (sym (ap value x)) ∙ and_all (eqb (here at) c) ∙ sym (rw t refl)
    some_by false false c o t e x = absurd (clash refl e)

    pub known_same : (c o : ℕ) → class_known k s at ≡ Some o → eqb o c ≡ is_object c s at
    known_same c o x = some_by (eqb (type_at s at) 1) (eqb (cond (eqb (type_at s at) 1) (get_or (leasts k) (here at) 0) 0) 0) c o refl refl x

    none_row : (one none : Bool) (c : ℕ) → 0 < get_or (leasts k) c 0 → eqb (type_at s at) 1 ≡ one → eqb (cond one (get_or (leasts k) (here at) 0) 0) 0 ≡ none
        → class_if (cond none None (Some (cond one (get_or (leasts k) (here at) 0) 0))) (here at) ≡ None → is_object c s at ≡ false
    none_row false none c h t e x = rw t (sym (and_none (eqb (here at) c)))
    none_row true true c h t e x =
        let z = eqb-true _ 0 e in
        ap (λ (b : Bool). b && eqb (type_at s at) 1) (ne_eqb (here at) c (λ (y : here at ≡ c). let r = ap (λ (i : ℕ). get_or (leasts k) i 0) y in omega arith))
    none_row true false c h t e x = absurd (let z : ◌≡◌ {A = ℕ} 1 0 = ap mark x in omega arith)

    pub none_same : (c : ℕ) → 0 < get_or (leasts k) c 0 → class_known k s at ≡ None → is_object c s at ≡ false
    none_same c h x = none_row (eqb (type_at s at) 1) (eqb (cond (eqb (type_at s at) 1) (get_or (leasts k) (here at) 0) 0) 0) c h refl refl x

    small_by : (one none : Bool) (o : ℕ) → eqb (cond one (get_or (leasts k) (here at) 0) 0) 0 ≡ none
        → class_if (cond none None (Some (cond one (get_or (leasts k) (here at) 0) 0))) (here at) ≡ Some o → o < 18
    small_by one true o e x = absurd (let z : ◌≡◌ {A = ℕ} 0 1 = ap mark x in omega arith)
    small_by false false o e x = absurd (clash refl e)
    small_by true false o e x =
        let same : here at ≡ o = ap value x in
        ⊎_elim
        (λ (t : ltb o 18 ≡ true). ltb-true o 18 t)
        (λ (f : ltb o 18 ≡ false). absurd (eqb-false _ 0 e (far_least k (here at) (let g = ltb-false o 18 f in omega arith))))
        (decide (ltb o 18))

    pub class-small : (o : ℕ) → class_known k s at ≡ Some o → o < 18
    class-small o x = small_by (eqb (type_at s at) 1) (eqb (cond (eqb (type_at s at) 1) (get_or (leasts k) (here at) 0) 0) 0) o refl x

  pub record Walked (at : ℕ) (met : List (Option ℕ)) : Type 0 where
    pub start : 4 ≤ at
    pub reached : at ≤ length s
    pub same : objects_verdict k s at ≡ objects_verdict k s 4
    pub long : length met ≡ 18
    pub first
        : objects_verdict k s 4 ≡ Pass → (c : ℕ) → 0 < get_or (leasts k) c 0
        → option_or (get_or met c None) (placed (first_of (is_object c s) (objects_in s at))) ≡ placed (first_of (is_object c s) (objects_in s 4))

  pub walk_starts : 4 ≤ length s → Walked 4 (replicate 18 None)
  walk_starts h =
      record {
        start = omega arith;
        reached = h;
        same = refl;
        long = refl;
        first = λ e c known. ap (λ (x : Option ℕ). option_or x (placed (first_of (is_object c s) (objects_in s 4)))) (nothing-met 18 c);
      }

  module _ (at : ℕ) (met : List (Option ℕ)) (w : Walked at met) where
    pub walk_ends : length s ≤ at → ObjectsPassed k s (objects_met met)
    unfolding first_object
    walk_ends h =
        let pass = sym w.same ∙ Along.checked_end (after_object s) (length s) (object_verdict k s) (further k s) at h in
        record {
          verdict = pass;
          firsts =
              λ c known.
              by_class k met c known
              ∙ sym (none-to_come (get_or met c None))
              ∙ ap (λ (x : ℕ). option_or (get_or met c None) (placed x)) (sym (first_end k s (is_object c s) at h))
              ∙ w.first pass c known;
        }

    -- an object that is refused refuses the message
    pub walk_refused : at < length s → (x : Refusal) → object_verdict k s at ≡ Err x → objects_verdict k s 4 ≡ Err x
    walk_refused h x e = sym w.same ∙ Along.checked_refused (after_object s) (length s) (object_verdict k s) (further k s) at h x e

    -- one step: the object passes, and its place is noted for its class
    module _ (h : at < length s) (pass : object_verdict k s at ≡ Pass) where
      next : (r : List (Option ℕ)) → length r ≡ 18 → ((c : ℕ) → 0 < get_or (leasts k) c 0 → get_or r c None ≡ noted (is_object c s at) (get_or met c None) at) → Walked (after_object s at) r
      next r long e =
          let o = right_object k s at pass in
          record {
            start = omega (arith, w.start, o.long);
            reached = o.inside;
            same = sym (Along.checked_next (after_object s) (length s) (object_verdict k s) (further k s) at h pass) ∙ w.same;
            long = long;
            first =
                λ p c known.
                let later = first_of (is_object c s) (objects_in s (after_object s at)) in
                ap (λ (y : Option ℕ). option_or y (placed later)) (e c known)
                ∙ noted-kept (get_or met c None) at later (omega (arith, w.start)) (is_object c s at)
                ∙ ap (λ (x : ℕ). option_or (get_or met c None) (placed x)) (sym (first_next k s (is_object c s) at h (w.same ∙ p)))
                ∙ w.first p c known;
          }

      pub walk_notes
          : (o : ℕ) → class_known k s at ≡ Some o → (x : Option ℕ) → x ≡ option_or (get_or met o None) (Some at) → Walked (after_object s at) (set met o x)
      walk_notes o is x e =
          next (set met o x) (length-set met o x ∙ w.long)
          (λ c known. noted_at met o at x (let l = class-small at o is in omega (arith, w.long)) e c ∙ ap (λ (b : Bool). noted b (get_or met c None) at) (known_same at c o is))

      pub walk_skips : class_known k s at ≡ None → Walked (after_object s at) met
      walk_skips is =
          next met w.long (λ c known. ap (λ (b : Bool). noted b (get_or met c None) at) (sym (none_same at c known is)))

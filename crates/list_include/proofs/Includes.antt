-- The reading of an include list, step by step: what comes next is an area or not, where the reading starts, and what one subobject leaves of the rest.
use mathlib.Core.Path.{◌≡◌, refl, sym, ap, ◌∙◌}
use mathlib.Core.Bool.{Bool, true, false, cond}
use mathlib.Core.List.{List, [], ◌∷◌, map}
use Prim.Native.Nat.{ℕ, zero, suc, ◌+◌, ◌≤◌, ◌<◌}
use native.Mathlib.Omega.{arith}
use lib.ListN.{length, get_or, replicate}
use lib.Dec.{eqb}
use mathlib.Core.Logic.{⊎_elim}
use borrow.Author.Tests.{ne_eqb, eqb-true, eqb-false}
use Rattle.laws.proofs.Tests.{decide}
use Rattle.list_subobject.proofs.FormLaws.{named_6, named_7}
use Rattle.model.specs.Verdict.{Pass}
use Rattle.model.specs.Bytes.{number, part}
use Rattle.model.specs.Lists.{count_from, each}
use Rattle.model.specs.Along.{places_along}
use Rattle.model.specs.Subobject.{Subobject, prefix, system, area, stretch, subobject_at, after_subobject, type_at, length_at, area_length_at, named_at}
use Rattle.model.specs.Sequence as M
use Rattle.model.specs.Request.{reading_input}
use Rattle.model.specs.declared.Domain.{Domain}
use Rattle.model.specs.declared.DomainIndex.{DomainIndex}
use Rattle.model.specs.Profile.{domain_at, domain_count, domain_start, domains}
use Rattle.laws.proofs.Records.{domain_at_lem}
use Rattle.list_include.specs.declared.state.State.{State}
use Rattle.std.specs.Prelude.{None}
use Rattle.laws.specs.Exrs.{exrs_in, waiting_in, Stretch}
use Rattle.laws.specs.Stops.{named_in, stretch_start}
use Rattle.laws.proofs.Waiting.{empty_stretch}
use Rattle.list_include.specs.Reading.{subobject_of, StateIs}
use Rattle.laws.specs.Left.{form_left, subobjects_left}
use Rattle.laws.proofs.Along.{places_first}
use Rattle.laws.proofs.Walk.{subobjects-end, subobjects_next, subobjects-whole}
use Rattle.model.specs.declared.Refusal.{Refusal}
use Rattle.model.specs.declared.ListKind.TheVariants.{Include}
use Rattle.laws.specs.Stops.{stops_of}
use Rattle.list_subobject.specs.declared.item.Item.{Item}
use Rattle.list_subobject.specs.Items.{ItemAt}

-- ---- an area comes next exactly where the type is 6 or 7

module _ (s : List ℕ) (at : ℕ) (h : at < length s) where
  next_named : M.area_next (subobjects_left s at) ≡ M.is_area (named_at s at)
  next_named = ap (λ (places : List ℕ). M.area_next (map (subobject_at s) places)) (places_first (after_subobject s) (length s) at h)

  pub area_6 : type_at s at ≡ 6 → true ≡ M.area_next (subobjects_left s at)
  area_6 e = sym (next_named ∙ ap M.is_area (named_6 s at e))

  pub area_7 : eqb (type_at s at) 7 ≡ true → true ≡ M.area_next (subobjects_left s at)
  area_7 e = sym (next_named ∙ ap M.is_area (named_7 s at (eqb-true (type_at s at) 7 e)))

  -- any other type names no area
  no_area : (type_at s at ≡ 6 → ⊥) → (type_at s at ≡ 7 → ⊥) → M.is_area (named_at s at) ≡ false
  unfolding named_at
  no_area d6 d7 = go (eqb (type_at s at) 1) (eqb (type_at s at) 5)
    where
      go : (one five : Bool)
          → M.is_area
          (cond one (prefix (number 4 s (at + 2)) (get_or s (at + 6) 0))
          (cond five (system (number 4 s (at + 4)))
          (cond (eqb (type_at s at) 6) (area (record { kind = 1; bytes = part s (at + 4) 4 }))
          (cond (eqb (type_at s at) 7) (area (record { kind = 2; bytes = part s (at + 4) (area_length_at s at) }))
          (cond (eqb (type_at s at) 33) (stretch (part s at (length_at s at)))
          (system (number 2 s (at + 2))))))))
          ≡ false
      go true five = refl
      go false true = refl
      go false false = rw (ne_eqb (type_at s at) 6 d6, ne_eqb (type_at s at) 7 d7) (last (eqb (type_at s at) 33))
        where
          last : (b : Bool) → M.is_area (cond b (stretch (part s at (length_at s at))) (system (number 2 s (at + 2)))) ≡ false
          last true = refl
          last false = refl

  pub area_or_not : (type_at s at ≡ 6 → ⊥) → eqb (type_at s at) 7 ≡ M.area_next (subobjects_left s at)
  area_or_not d6 =
      ⊎_elim
      (λ (t : eqb (type_at s at) 7 ≡ true). t ∙ area_7 t)
      (λ (f : eqb (type_at s at) 7 ≡ false). f ∙ sym (next_named ∙ no_area d6 (eqb-false (type_at s at) 7 f)))
      (decide (eqb (type_at s at) 7))

pub area-end : (s : List ℕ) (at : ℕ) → length s ≤ at → false ≡ M.area_next (subobjects_left s at)
area-end s at h = sym (ap M.area_next (subobjects-end s (length s) at h))

-- ---- where the reading starts

abbrev first : ℕ → DomainIndex → State
first asn d =
    record { asn = asn; count = 1; stops = replicate 16 (record { domain = d; pin = None; named = 0 }); node = None; waiting = None }

pub started
    : (s : List ℕ) (d : DomainIndex) (x : ℕ) → d.0 < domain_count s → x ≡ number 4 s (domain_start d.0)
    → (list : List ℕ) → StateIs list 0 (first x d) (M.start_in (reading_input s) d.0)
unfolding stops_of count_from domain_at exrs_in waiting_in each places_along M.exrs_of
started s d x h e list =
    let asn : x ≡ (M.domain_of (domains s) d.0).asn = e ∙ sym (ap (λ (r : Domain). r.asn) (domain_at_lem s d.0 M.no_domain h)) in
    record {
      means = λ k. record { asn = asn k; here = d.0; sequence = M.stop_with d.0 [] ∷ []; waiting = [] };
      sound = record { some_domain_lem = omega arith; most = omega arith; stops-long = refl };
      standing =
          record {
            placed = λ i l. alone i l;
            behind = empty_stretch list 0 (omega arith);
            pin_is = refl;
            left_is = refl;
          };
    }
  where
    alone : (i : ℕ) → i < 1 → Stretch list (stretch_start (first x d).stops i) (named_in (first x d).stops i)
    alone zero l = empty_stretch list 0 (omega arith)
    alone (suc i) l = absurd (omega arith)

-- ---- one subobject, and what is left of the reading

module _ (R : M.ReadingInput) (s : List ℕ) (at : ℕ) (st : M.State) where
  -- the code's subobject stands for the one at the offset
  pub read_here
      : (it : Item) (follows : Bool) → ItemAt s at it → follows ≡ M.area_next (subobjects_left s it.next)
      → M.read_one R st (subobject_of s it) follows ≡ M.read_one R st (subobject_at s at) (M.area_next (subobjects_left s (at + length_at s at)))
  read_here it follows is e =
      let f : follows ≡ M.area_next (subobjects_left s (at + length_at s at)) = e ∙ ap (λ (n : ℕ). M.area_next (subobjects_left s n)) is.next in
      λ i. M.read_one R st (record { offset = is.offset i; top = is.top i; names = is.named i }) (f i)

  module _ (h : at < length s) (right : form_left Include s at ≡ Pass) where
    pub read_more
        : M.read_all R (subobjects_left s at) st
        ≡ M.continue (M.read_one R st (subobject_at s at) (M.area_next (subobjects_left s (at + length_at s at)))) (λ (next : M.State). M.read_all R (subobjects_left s (at + length_at s at)) next)
    unfolding M.read_all
    read_more = ap (λ (l : List Subobject). M.read_all R l st) (subobjects_next Include s (length s) at h right)

    -- by what the step says
    pub read-passed
        : (next : M.State) → M.good next ≡ M.read_one R st (subobject_at s at) (M.area_next (subobjects_left s (at + length_at s at)))
        → M.read_all R (subobjects_left s at) st ≡ M.read_all R (subobjects_left s (at + length_at s at)) next
    read-passed next e =
        read_more ∙ ap (λ (r : M.Reading M.State). M.continue r (λ (n : M.State). M.read_all R (subobjects_left s (at + length_at s at)) n)) (sym e)

    pub read-refused
        : (x : Refusal) → M.refused x ≡ M.read_one R st (subobject_at s at) (M.area_next (subobjects_left s (at + length_at s at)))
        → M.read_all R (subobjects_left s at) st ≡ M.refused x
    read-refused x e =
        read_more ∙ ap (λ (r : M.Reading M.State). M.continue r (λ (n : M.State). M.read_all R (subobjects_left s (at + length_at s at)) n)) (sym e)

pub read-end : (R : M.ReadingInput) (s : List ℕ) (at : ℕ) (st : M.State) → length s ≤ at → M.finish st st.waiting ≡ M.read_all R (subobjects_left s at) st
unfolding M.read_all
read-end R s at st h = ap (λ (l : List Subobject). M.read_all R l st) (sym (subobjects-end s (length s) at h))

pub read-start : (R : M.ReadingInput) (s : List ℕ) (d : ℕ) (st : M.State) → st ≡ M.start_in R d → M.read_all R (subobjects_left s 0) st ≡ M.meaning R d s
unfolding M.meaning
read-start R s d st e = λ i. M.read_all R (subobjects-whole s i) (e i)

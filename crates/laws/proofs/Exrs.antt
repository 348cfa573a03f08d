-- EXRS in a list of right form: each is a whole subobject of right form wherever its bytes stand, so those of a stretch, back to back, read as themselves and carry
-- the same exclusions. Bytes that are whole EXRS are all that their EXRS hold. By recursion along the stretch.
use Rattle.std.specs.Prelude.{Ok, Err}
use Prim.Native.Nat.{ℕ, zero, suc, ◌+◌, ◌-◌, ◌%◌, ◌≤◌}
use native.Mathlib.Nat.{add-zero, zero-add}
use native.Mathlib.Omega.{arith}
use mathlib.Core.Path.{◌≡◌, refl, sym, ap, ap₂, subst, ◌∙◌}
use mathlib.Core.Logic.{⊎_elim}
use mathlib.Core.Bool.{Bool, true, false, cond}
use mathlib.Core.List.{List, [], ◌∷◌, ◌++◌, append-nil}
use lib.ListN.{length, get_or, take, drop, length-append, length-drop, take-append-drop, drop_of_length-le, get_or-append}
use lib.Seq.{length-take-le, take-append_seam, get_or-take, get_or-drop, drop-drop}
use lib.Dec.{eqb, leb, ltb}
use borrow.Author.Tests.{eqb-true, eq-eqb, ltb-true, ltb-false}
use Rattle.model.specs.declared.ListKind.TheVariants.{Include, Exclude}
use Rattle.model.specs.Lists.{all, each}
use Rattle.model.specs.Verdict.{Verdict, Pass, passes, refuse_if}
use Rattle.model.specs.Along.{checked_along}
use Rattle.model.specs.Bytes.{number, part}
use Rattle.model.specs.Subobject.{Named, prefix, system, area, stretch, Subobject, type_at, length_at, area_length_at, plain_verdict, carried_verdict, carried_if, subobject_verdict, named_at, after_subobject, form_from, form_verdict, subobjects_from, subobjects, inside_of, carried}
use Rattle.model.specs.WrittenList.{is_exrs, whole_exrs}
use Rattle.laws.specs.Exrs.{bytes_named, exrs_in, carried_in}
use Rattle.laws.proofs.Tests.{decide, and_both, clash}
use Rattle.laws.proofs.Lists.{each_append}
use Rattle.laws.proofs.Turns.{and_then_pass}
use Rattle.laws.proofs.Forms.{Alike, pass_right, plain_of, carried_of, walk-alike, whole_alike}
use Rattle.laws.proofs.Walk.{right_subobject, own_end, right_here, right_next, subobjects_next, subobjects-end}
use Rattle.laws.proofs.Subobjects.{Item, Encoded, AllEncoded, joined, placed, subobjects-whole}

-- ---- what type 33 names

pub named_33 : (s : List ℕ) (at : ℕ) → type_at s at ≡ 33 → named_at s at ≡ stretch (part s at (length_at s at))
unfolding named_at
named_33 s at e = rw e refl

-- no other type is an EXRS
module _ {A : Type 0} (f : Named → List A) (no_prefix : (a n : ℕ) → f (prefix a n) ≡ []) (no_system : (n : ℕ) → f (system n) ≡ []) (no_area : (a : Rattle.model.specs.Subobject.Area) → f (area a) ≡ []) where
  pub no_33 : (s : List ℕ) (at : ℕ) → eqb (type_at s at) 33 ≡ false → f (named_at s at) ≡ []
  unfolding named_at
  no_33 s at e = go (eqb (type_at s at) 1) (eqb (type_at s at) 5) (eqb (type_at s at) 6) (eqb (type_at s at) 7)
    where
      go : (one five six seven : Bool)
          → f
          (cond one (prefix (number 4 s (at + 2)) (get_or s (at + 6) 0))
          (cond five (system (number 4 s (at + 4)))
          (cond six (area (record { kind = 1; bytes = part s (at + 4) 4 }))
          (cond seven (area (record { kind = 2; bytes = part s (at + 4) (area_length_at s at) }))
          (cond (eqb (type_at s at) 33) (stretch (part s at (length_at s at)))
          (system (number 2 s (at + 2))))))))
          ≡ []
      go true five six seven = no_prefix _ _
      go false true six seven = no_system _
      go false false true seven = no_area _
      go false false false true = no_area _
      go false false false false = rw e (no_system _)

-- ---- one of them

module _ (s : List ℕ) (end at : ℕ) (inside : end ≤ length s) (right : subobject_verdict Include s end at ≡ Pass) where
  abbrev size : ℕ
  size = length_at s at

  abbrev bytes : List ℕ
  bytes = part s at size

  part-long : length bytes ≡ size
  part-long =
      let r = right_subobject Include s end at right in
      length-take-le size (drop at s) (omega (arith, r.whole, length-drop at s))

  -- its bytes with anything behind them are those of the list
  alike : (post : List ℕ) → Alike s (bytes ++ post) at 0 size
  alike post =
      let r = right_subobject Include s end at right in
      record {
        in_first = omega (arith, r.whole);
        in_second = omega (arith, length-append bytes post, part-long);
        same = λ i h.
            sym
            (ap (λ (j : ℕ). get_or (bytes ++ post) j 0) (zero-add i)
            ∙ get_or-append bytes post 0 i (omega (arith, part-long))
            ∙ get_or-take size (drop at s) i 0 h
            ∙ get_or-drop at s i 0);
      }

  module _ (kind : type_at s at ≡ 33) where
    abbrev pub exrs_item : Item
    exrs_item = record { bytes = bytes; names = stretch bytes }

    first_byte : (post : List ℕ) → get_or (bytes ++ post) 0 0 ≡ get_or s at 0
    first_byte post =
        let r = right_subobject Include s end at right in
        sym (ap (λ (j : ℕ). get_or s j 0) (sym (add-zero at)) ∙ (alike post).same 0 (omega (arith, r.long)))

    its_length : (post : List ℕ) → length_at (bytes ++ post) 0 ≡ size
    its_length post = let r = right_subobject Include s end at right in sym ((alike post).same 1 (omega (arith, r.long)))

    pub exrs_encoded : Encoded Include exrs_item
    unfolding named_at
    exrs_encoded =
        let r = right_subobject Include s end at right in
        record {
          right = λ post.
              subst (λ (n : ℕ). subobject_verdict Include (bytes ++ post) n 0 ≡ Pass) (zero-add size ∙ sym part-long)
              (whole_alike (alike post) Include size 0 (omega arith)
              (ap (subobject_verdict Include s (at + size)) (add-zero at) ∙ own_end Include s end at right));
          clear = λ post. ap (leb 128) (first_byte post) ∙ (pass_right (plain_of Include s end at right)).top_right;
          size = λ post. its_length post ∙ sym part-long;
          long = omega (arith, r.long, part-long);
          naming = λ post.
              let t : type_at (bytes ++ post) 0 ≡ 33 = ap (λ (x : ℕ). x % 128) (first_byte post) ∙ kind in
              named_33 (bytes ++ post) 0 t ∙ ap stretch (ap (λ (n : ℕ). take n (bytes ++ post)) (its_length post ∙ sym part-long) ∙ take-append_seam bytes post);
        }

    -- what it carries is an exclude list of right form
    pub inside-right : form_verdict Exclude (part s (at + 4) (size - 4)) ≡ Pass
    unfolding form_verdict carried_verdict subobject_verdict
    inside-right =
        let r = right_subobject Include s end at right in
        let whole = r.whole in
        let long = r.long in
        let inner = part s (at + 4) (size - 4) in
        let n : length inner ≡ size - 4 = length-take-le (size - 4) (drop (at + 4) s) (omega (arith, length-drop (at + 4) s)) in
        let carried : carried_verdict s at ≡ Pass = subst (λ (b : Bool). carried_if b s at ≡ Pass) (eq-eqb (type_at s at) 33 kind) (carried_of s end at right) in
        let walk = ((and_then_pass (refuse_if (eqb size 4) 26 at) _).0 carried).1 in
        let fuel = at + size - (at + 4) in
        let same : Alike s inner (at + 4) 0 (size - 4) =
        record {
          in_first = omega arith;
          in_second = omega (arith, n);
          same = λ i h. sym (ap (λ (j : ℕ). get_or inner j 0) (zero-add i) ∙ get_or-take (size - 4) (drop (at + 4) s) i 0 h ∙ get_or-drop (at + 4) s i 0);
        } in
        let end_is : at + size ≡ at + 4 + (size - 4) = omega arith in
        let moved =
        walk-alike same Exclude fuel (size - 4) 0 (omega arith)
        (ap₂ (λ (u v : ℕ). checked_along fuel (plain_verdict Exclude s u) (after_subobject s) u v) (sym end_is) (add-zero (at + 4)) ∙ walk) in
        let f : length inner - 0 ≡ fuel = omega (arith, n) in
        let z : length inner ≡ 0 + (size - 4) = omega (arith, n) in
        ap (λ (m : ℕ). checked_along m (plain_verdict Exclude inner (length inner)) (after_subobject inner) (length inner) 0) f
        ∙ ap₂ (λ (u v : ℕ). checked_along fuel (plain_verdict Exclude inner u) (after_subobject inner) u v) z (sym (zero-add 0))
        ∙ moved

-- the same bytes, taken from the EXRS
pub inside-bytes : (s : List ℕ) (at n : ℕ) → drop 4 (part s at n) ≡ part s (at + 4) (n - 4)
inside-bytes s at n = drop-take 4 n (drop at s) ∙ ap (take (n - 4)) (drop-drop 4 at s)
  where
    drop-take : (j m : ℕ) (l : List ℕ) → drop j (take m l) ≡ take (m - j) (drop j l)
    drop-take zero m l = let e : m ≡ m - 0 = omega arith in ap (λ (k : ℕ). take k l) e
    drop-take (suc j) zero l = let e : 0 ≡ 0 - suc j = omega arith in ap (λ (k : ℕ). take k (drop (suc j) l)) e
    drop-take (suc j) (suc m) [] = sym (take_nil_any (suc m - suc j))
      where
        take_nil_any : (k : ℕ) → take {A = ℕ} k [] ≡ []
        take_nil_any zero = refl
        take_nil_any (suc k) = refl
    drop-take (suc j) (suc m) (x ∷ l) = let e : m - j ≡ suc m - suc j = omega arith in drop-take j m l ∙ ap (λ (k : ℕ). take k (drop j l)) e

-- ---- those of a stretch

abbrev pub items_named : Named → List Item
items_named (prefix a n) = []
items_named (system n) = []
items_named (area a) = []
items_named (stretch bytes) = record { bytes = bytes; names = stretch bytes } ∷ []

unfoldable pub exrs_items : List Subobject → List Item
exrs_items subs = each (λ (x : Subobject). items_named x.names) subs

module _ (s : List ℕ) (to : ℕ) (inside : to ≤ length s) where
  here_encoded : (at : ℕ) → subobject_verdict Include s to at ≡ Pass → AllEncoded Include (items_named (named_at s at))
  here_encoded at right =
      ⊎_elim
      (λ (t : eqb (type_at s at) 33 ≡ true).
      let k = eqb-true (type_at s at) 33 t in
      subst (λ (x : Named). AllEncoded Include (items_named x)) (sym (named_33 s at k)) (exrs_encoded s to at inside right k, tt))
      (λ (f : eqb (type_at s at) 33 ≡ false). subst (AllEncoded Include) (sym (no_33 items_named (λ a n. refl) (λ n. refl) (λ a. refl) s at f)) tt)
      (decide (eqb (type_at s at) 33))

  encoded_from : (fuel at : ℕ) → to ≤ at + fuel → form_from Include s to at ≡ Pass → AllEncoded Include (exrs_items (subobjects_from s to at))
  unfolding exrs_items each
  encoded_from zero at h e = subst (λ (l : List Subobject). AllEncoded Include (exrs_items l)) (sym (subobjects-end s to at (omega arith))) tt
  encoded_from (suc fuel) at h e =
      ⊎_elim
      (λ (t : ltb at to ≡ true).
      let l = ltb-true at to t in
      let first = right_here Include s to at l e in
      let r = right_subobject Include s to at first in
      let long = r.long in
      subst (λ (x : List Subobject). AllEncoded Include (exrs_items x)) (sym (subobjects_next Include s to at l e))
      (both (items_named (named_at s at)) _ (here_encoded at first) (encoded_from fuel (after_subobject s at) (omega arith) (right_next Include s to at l e))))
      (λ (f : ltb at to ≡ false). subst (λ (l : List Subobject). AllEncoded Include (exrs_items l)) (sym (subobjects-end s to at (ltb-false at to f))) tt)
      (decide (ltb at to))
    where
      both : (xs ys : List Item) → AllEncoded Include xs → AllEncoded Include ys → AllEncoded Include (xs ++ ys)
      both [] ys a b = b
      both (x ∷ xs) ys a b = (a.0, both xs ys a.1 b)

  pub stretch_encoded : (from : ℕ) → form_from Include s to from ≡ Pass → AllEncoded Include (exrs_items (subobjects_from s to from))
  stretch_encoded from = encoded_from to from (omega arith)

-- their bytes back to back
named_joined : (n : Named) → joined (items_named n) ≡ bytes_named n
unfolding each
named_joined (prefix a n) = refl
named_joined (system n) = refl
named_joined (area a) = refl
named_joined (stretch bytes) = append-nil bytes

pub items_bytes : (subs : List Subobject) → joined (exrs_items subs) ≡ each (λ (x : Subobject). bytes_named x.names) subs
unfolding exrs_items each
items_bytes [] = refl
items_bytes (x ∷ subs) =
    each_append (λ (y : Item). y.bytes) (items_named x.names) (exrs_items subs)
    ∙ ap₂ {C = List ℕ} (λ (a b : List ℕ). a ++ b) (named_joined x.names) (items_bytes subs)

-- read as themselves, they carry the same exclusions
placed-carried : (at : ℕ) (xs : List Item) → each (λ (x : Subobject). inside_of x.names) (placed at xs) ≡ each (λ (x : Item). inside_of x.names) xs
unfolding each
placed-carried at [] = refl
placed-carried at (x ∷ xs) = ap {B = List Subobject} (λ (l : List Subobject). inside_of x.names ++ l) (placed-carried (at + length x.bytes) xs)

named-carried : (n : Named) → each (λ (x : Item). inside_of x.names) (items_named n) ≡ inside_of n
unfolding each
named-carried (prefix a n) = refl
named-carried (system n) = refl
named-carried (area a) = refl
named-carried (stretch bytes) = append-nil (subobjects (drop 4 bytes))

items_carried : (subs : List Subobject) → each (λ (x : Item). inside_of x.names) (exrs_items subs) ≡ each (λ (x : Subobject). inside_of x.names) subs
unfolding exrs_items each
items_carried [] = refl
items_carried (x ∷ subs) =
    each_append (λ (y : Item). inside_of y.names) (items_named x.names) (exrs_items subs)
    ∙ ap₂ {C = List Subobject} (λ (a b : List Subobject). a ++ b) (named-carried x.names) (items_carried subs)

pub carried-there : (s : List ℕ) (from to : ℕ) → to ≤ length s → form_from Include s to from ≡ Pass → carried (exrs_in s from to) ≡ carried_in s from to
unfolding carried exrs_in carried_in
carried-there s from to inside right =
    let subs = subobjects_from s to from in
    ap (λ (b : List ℕ). each (λ (x : Subobject). inside_of x.names) (subobjects b)) (sym (items_bytes subs))
    ∙ ap (each (λ (x : Subobject). inside_of x.names)) (subobjects-whole Include (exrs_items subs) (stretch_encoded s to inside from right))
    ∙ placed-carried 0 (exrs_items subs)
    ∙ items_carried subs

-- ---- bytes that are whole EXRS

module _ (s : List ℕ) where
  all_from : (fuel at : ℕ) → length s ≤ at + fuel → at ≤ length s → form_from Include s (length s) at ≡ Pass → all (λ (x : Subobject). is_exrs x.names) (subobjects_from s (length s) at) ≡ true
      → each (λ (x : Subobject). bytes_named x.names) (subobjects_from s (length s) at) ≡ drop at s
  unfolding each
  all_from zero at high low right only =
      ap (each (λ (x : Subobject). bytes_named x.names)) (subobjects-end s (length s) at (omega arith)) ∙ sym (drop_of_length-le s {i = at} (omega arith))
  all_from (suc fuel) at high low right only =
      ⊎_elim
      (λ (t : ltb at (length s) ≡ true).
      let l = ltb-true at (length s) t in
      let next = subobjects_next Include s (length s) at l right in
      let first = right_here Include s (length s) at l right in
      let r = right_subobject Include s (length s) at first in
      let long = r.long in
      let whole = r.whole in
      let both = and_both (is_exrs (named_at s at)) _ (sym (ap (all (λ (x : Subobject). is_exrs x.names)) next) ∙ only) in
      let later = all_from fuel (after_subobject s at) (omega arith) whole (right_next Include s (length s) at l right) both.1 in
      ap (each (λ (x : Subobject). bytes_named x.names)) next
      ∙ ap₂ {C = List ℕ} (λ (a b : List ℕ). a ++ b) (its_bytes at both.0) later
      ∙ ap {B = List ℕ} (λ (b : List ℕ). part s at (length_at s at) ++ b) (sym (drop-drop (length_at s at) at s))
      ∙ take-append-drop (length_at s at) (drop at s))
      (λ (f : ltb at (length s) ≡ false).
      ap (each (λ (x : Subobject). bytes_named x.names)) (subobjects-end s (length s) at (ltb-false at (length s) f)) ∙ sym (drop_of_length-le s {i = at} (ltb-false at (length s) f)))
      (decide (ltb at (length s)))
    where
      -- one that is an EXRS names its own bytes
      its_bytes : (o : ℕ) → is_exrs (named_at s o) ≡ true → bytes_named (named_at s o) ≡ part s o (length_at s o)
      its_bytes o e =
          ⊎_elim
          (λ (t : eqb (type_at s o) 33 ≡ true). ap bytes_named (named_33 s o (eqb-true (type_at s o) 33 t)))
          (λ (f : eqb (type_at s o) 33 ≡ false). absurd (none (items_named (named_at s o)) (no_33 items_named (λ a n. refl) (λ n. refl) (λ a. refl) s o f) (some (named_at s o) e)))
          (decide (eqb (type_at s o) 33))
        where
          some : (n : Named) → is_exrs n ≡ true → length (items_named n) ≡ 1
          some (prefix a n) e = clash e refl
          some (system n) e = clash e refl
          some (area a) e = clash e refl
          some (stretch b) e = refl

          none : (xs : List Item) → xs ≡ [] → length xs ≡ 1 → ⊥
          none xs e l = omega (arith, ap length e)

pub passes_pass : (v : Verdict) → passes v ≡ true → v ≡ Pass
passes_pass (Ok _) e = refl
passes_pass (Err r) e = clash e refl

pub record Whole (bytes : List ℕ) : Type 0 where
  pub form : form_verdict Include bytes ≡ Pass
  pub those : each (λ (x : Subobject). bytes_named x.names) (subobjects bytes) ≡ bytes
  pub encoded : AllEncoded Include (exrs_items (subobjects bytes))

pub whole-exrs : (bytes : List ℕ) → whole_exrs bytes ≡ true → Whole bytes
unfolding whole_exrs form_verdict subobjects
whole-exrs bytes e =
    let both = and_both (passes (form_verdict Include bytes)) (all (λ (x : Subobject). is_exrs x.names) (subobjects bytes)) e in
    let form = passes_pass (form_verdict Include bytes) both.0 in
    record {
      form = form;
      those = all_from bytes (length bytes) 0 (omega arith) (omega arith) form both.1;
      encoded = stretch_encoded bytes (length bytes) (omega arith) 0 form;
    }

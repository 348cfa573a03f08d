-- The form of a subobject as one fact for each of its tests, and what it doesn't depend on: how much later the end is, and where its bytes stand. What an EXRS
-- carries moves with it. By the tests, which look at the subobject's own bytes alone, and recursion on the fuel of the walk inside.
use Prim.Native.Nat.{ℕ, zero, suc, ◌+◌, ◌-◌, ◌*◌, ◌%◌, ◌≤◌, ◌<◌}
use native.Mathlib.Nat.{add_assoc, add-suc}
use native.Mathlib.Omega.{arith}
use mathlib.Core.Path.{◌≡◌, refl, sym, ap, ap₂, subst, ◌∙◌}
use mathlib.Core.Logic.{⊎_elim}
use mathlib.Core.Bool.{Bool, true, false, not, ◌&&◌, ◌||◌, or-false}
use mathlib.Core.List.{List, ◌∷◌}
use lib.ListN.{length, get_or}
use lib.Dec.{eqb, leb, ltb}
use borrow.Author.Tests.{le-ltb, ltb-true, ltb-false, eqb-true, not-false}
use Rattle.model.specs.declared.ListKind.{ListKind}
use Rattle.model.specs.declared.ListKind.TheVariants.{Include, Exclude}
use Rattle.model.specs.Lists.{any}
use Rattle.model.specs.Reserved.{nobodys}
use Rattle.model.specs.Verdict.{Verdict, Pass, refuse_if, ◌and_then◌}
use Rattle.model.specs.Along.{checked_along}
use Rattle.model.specs.Bytes.{number, part, all_zero}
use Rattle.model.specs.Subobject.{rounded_up, known, length_fits, top_at, type_at, length_at, area_length_at, top_wrong, prefix_wrong, padding_wrong, field_wrong, plain_verdict, carried_verdict, carried_if, subobject_verdict, after_subobject}
use Rattle.laws.proofs.Tests.{decide}
use Rattle.laws.proofs.Turns.{and_then_pass, and_then-refuse_if, refuse_if_pass}
use Rattle.laws.proofs.Numbers.{number_alike}
use Rattle.laws.proofs.Words.{part_cons}
use Rattle.laws.proofs.Along.{check_step, none_checked}

-- the length of a type that has an own one
module _ (k : ListKind) (a n : ℕ) where
  fitted : (m : ℕ) → (eqb n m || false) ≡ true → n ≡ m
  fitted m h = eqb-true n m (sym (or-false (eqb n m)) ∙ h)

  pub fits_1 : (t : ℕ) → length_fits k t a n ≡ true → t ≡ 1 → n ≡ 8
  unfolding length_fits
  fits_1 t h e = let l = fitted (8 + 0 * rounded_up a) (subst (λ (u : ℕ). length_fits k u a n ≡ true) e h) in omega arith

  pub fits_5 : (t : ℕ) → length_fits k t a n ≡ true → t ≡ 5 → n ≡ 8
  unfolding length_fits
  fits_5 t h e = let l = fitted (8 + 0 * rounded_up a) (subst (λ (u : ℕ). length_fits k u a n ≡ true) e h) in omega arith

  pub fits_6 : (t : ℕ) → length_fits k t a n ≡ true → t ≡ 6 → n ≡ 8
  unfolding length_fits
  fits_6 t h e = let l = fitted (8 + 0 * rounded_up a) (subst (λ (u : ℕ). length_fits k u a n ≡ true) e h) in omega arith

  pub fits_32 : (t : ℕ) → length_fits k t a n ≡ true → t ≡ 32 → n ≡ 4
  unfolding length_fits
  fits_32 t h e = let l = fitted (4 + 0 * rounded_up a) (subst (λ (u : ℕ). length_fits k u a n ≡ true) e h) in omega arith

  pub fits_7 : (t : ℕ) → length_fits k t a n ≡ true → t ≡ 7 → 4 + a ≤ n
  unfolding length_fits
  fits_7 t h e = let l = fitted (4 + 1 * rounded_up a) (subst (λ (u : ℕ). length_fits k u a n ≡ true) e h) in omega arith

-- what the form check looks at, one fact for each of its tests, in its order
pub record RightForm (k : ListKind) (s : List ℕ) (end at : ℕ) : Type 0 where
  pub header : at + 4 ≤ end
  pub supported : known k (type_at s at) ≡ true
  pub top_right : top_wrong k (top_at s at) ≡ false
  pub area_in_range : (eqb (type_at s at) 7 && not (leb 1 (area_length_at s at) && leb (area_length_at s at) 13)) ≡ false
  pub size_fits : length_fits k (type_at s at) (area_length_at s at) (length_at s at) ≡ true
  pub whole : at + length_at s at ≤ end
  pub body_right : field_wrong k s at ≡ false

module _ {k : ListKind} {s : List ℕ} {end at : ℕ} where
  pub right_pass : RightForm k s end at → plain_verdict k s end at ≡ Pass
  unfolding plain_verdict
  right_pass r =
      rw (le-ltb end (at + 4) r.header, r.supported, r.top_right, r.area_in_range, r.size_fits, le-ltb end (at + length_at s at) r.whole, r.body_right)

  pub pass_right : plain_verdict k s end at ≡ Pass → RightForm k s end at
  unfolding plain_verdict
  pass_right e =
      let t = type_at s at in
      let a = area_length_at s at in
      let six = (and_then-refuse_if _ (field_wrong k s at) 26 at).0 e in
      let five = (and_then-refuse_if _ (ltb end (at + length_at s at)) 23 at).0 six.0 in
      let four = (and_then-refuse_if _ (not (length_fits k t a (length_at s at))) 25 at).0 five.0 in
      let three = (and_then-refuse_if _ (eqb t 7 && not (leb 1 a && leb a 13)) 26 at).0 four.0 in
      let two = (and_then-refuse_if _ (top_wrong k (top_at s at)) 27 at).0 three.0 in
      let one = (and_then-refuse_if _ (not (known k t)) 24 at).0 two.0 in
      record {
        header = ltb-false end (at + 4) ((refuse_if_pass (ltb end (at + 4)) 23 at).0 one.0);
        supported = not-false (known k t) one.1;
        top_right = two.1;
        area_in_range = three.1;
        size_fits = not-false (length_fits k t a (length_at s at)) four.1;
        whole = ltb-false end (at + length_at s at) five.1;
        body_right = six.1;
      }

-- up to any end behind it
pub nearer_form : {k : ListKind} {s : List ℕ} {end nearer at : ℕ} → at + 4 ≤ nearer → at + length_at s at ≤ nearer → RightForm k s end at → RightForm k s nearer at
nearer_form h l r =
    record {
      header = h;
      supported = r.supported;
      top_right = r.top_right;
      area_in_range = r.area_in_range;
      size_fits = r.size_fits;
      whole = l;
      body_right = r.body_right;
    }

-- the whole form: of the subobject itself, and of what it carries
pub plain_of : (k : ListKind) (s : List ℕ) (end at : ℕ) → subobject_verdict k s end at ≡ Pass → plain_verdict k s end at ≡ Pass
unfolding subobject_verdict
plain_of Include s end at e = ((and_then_pass (plain_verdict Include s end at) (carried_if (eqb (type_at s at) 33) s at)).0 e).0
plain_of Exclude s end at e = e

pub carried_of : (s : List ℕ) (end at : ℕ) → subobject_verdict Include s end at ≡ Pass → carried_if (eqb (type_at s at) 33) s at ≡ Pass
unfolding subobject_verdict
carried_of s end at e = ((and_then_pass (plain_verdict Include s end at) (carried_if (eqb (type_at s at) 33) s at)).0 e).1

pub both_pass : (s : List ℕ) (end at : ℕ) → plain_verdict Include s end at ≡ Pass → carried_if (eqb (type_at s at) 33) s at ≡ Pass → subobject_verdict Include s end at ≡ Pass
unfolding subobject_verdict
both_pass s end at p c = (and_then_pass (plain_verdict Include s end at) (carried_if (eqb (type_at s at) 33) s at)).1 (p, c)

pub nearer_end : (k : ListKind) (s : List ℕ) (end nearer at : ℕ) → at + 4 ≤ nearer → at + length_at s at ≤ nearer → subobject_verdict k s end at ≡ Pass → subobject_verdict k s nearer at ≡ Pass
unfolding subobject_verdict
nearer_end Include s end nearer at h l e = both_pass s nearer at (right_pass (nearer_form h l (pass_right (plain_of Include s end at e)))) (carried_of s end at e)
nearer_end Exclude s end nearer at h l e = right_pass (nearer_form h l (pass_right e))

pub later_end : (k : ListKind) (s : List ℕ) (end later at : ℕ) → end ≤ later → subobject_verdict k s end at ≡ Pass → subobject_verdict k s later at ≡ Pass
later_end k s end later at h e =
    let r = pass_right (plain_of k s end at e) in
    nearer_end k s end later at (omega (arith, r.header)) (omega (arith, r.whole)) e

-- ---- the same bytes in two lists

pub record Alike (s t : List ℕ) (a b n : ℕ) : Type 0 where
  pub in_first : a + n ≤ length s
  pub in_second : b + n ≤ length t
  pub same : (i : ℕ) → i < n → get_or s (a + i) 0 ≡ get_or t (b + i) 0

and_alike : (b x y : Bool) → (b ≡ true → x ≡ y) → (b && x) ≡ (b && y)
and_alike true x y h = h refl
and_alike false x y h = refl

module _ {s t : List ℕ} {a b n : ℕ} (is : Alike s t a b n) where
  -- at an offset inside, and some bytes further on
  byte : (i j : ℕ) → i + j < n → get_or s (a + i + j) 0 ≡ get_or t (b + i + j) 0
  byte i j h = ap (λ (x : ℕ). get_or s x 0) (add_assoc a i j) ∙ is.same (i + j) h ∙ ap (λ (x : ℕ). get_or t x 0) (sym (add_assoc b i j))

  pub part_alike : (m i : ℕ) → i + m ≤ n → part s (a + i) m ≡ part t (b + i) m
  part_alike zero i h = refl
  part_alike (suc m) i h =
      part_cons s (a + i) m (omega (arith, is.in_first))
      ∙ ap₂ {C = List ℕ} (λ (x : ℕ) (rest : List ℕ). x ∷ rest) (is.same i (omega arith))
      (ap (λ (x : ℕ). part s x m) (sym (add-suc a i)) ∙ part_alike m (suc i) (omega arith) ∙ ap (λ (x : ℕ). part t x m) (add-suc b i))
      ∙ sym (part_cons t (b + i) m (omega (arith, is.in_second)))

  pub type_alike : (i : ℕ) → i < n → type_at s (a + i) ≡ type_at t (b + i)
  type_alike i h = ap (λ (x : ℕ). x % 128) (is.same i h)

  pub length_alike : (i : ℕ) → i + 1 < n → length_at s (a + i) ≡ length_at t (b + i)
  length_alike i h = byte i 1 h

  -- the last test
  module _ (i : ℕ) (head : i + 4 ≤ n) (inside : i + length_at s (a + i) ≤ n) where
    area_alike : area_length_at s (a + i) ≡ area_length_at t (b + i)
    area_alike = byte i 2 (omega arith)

    prefix_alike : (k : ListKind) → length_at s (a + i) ≡ 8 → prefix_wrong k s (a + i) ≡ prefix_wrong k t (b + i)
    prefix_alike Include e = ap (λ (x : ℕ). not (eqb x 32)) (byte i 6 (omega arith))
    prefix_alike Exclude e = ap₂ (λ (x y : ℕ). ltb 32 x || not (eqb y 1)) (byte i 6 (omega arith)) (byte i 7 (omega arith))

    padding_alike : 4 + area_length_at s (a + i) ≤ length_at s (a + i) → padding_wrong s (a + i) ≡ padding_wrong t (b + i)
    padding_alike l =
        let x = area_length_at s (a + i) in
        let y = length_at s (a + i) in
        let from : (c : ℕ) → c + i + 4 + x ≡ c + (i + 4 + x) = λ c. omega arith in
        ap (λ (o : ℕ). not (all_zero (part s o (y - (4 + x))))) (from a)
        ∙ ap (λ (p : List ℕ). not (all_zero p)) (part_alike (y - (4 + x)) (i + 4 + x) (omega arith))
        ∙ ap (λ (o : ℕ). not (all_zero (part t o (y - (4 + x))))) (sym (from b))
        ∙ ap₂ (λ (u v : ℕ). not (all_zero (part t (b + i + 4 + u) (v - (4 + u))))) area_alike (byte i 1 (omega arith))

    -- an AS of m bytes, j bytes behind the subobject's start
    system_alike : (m j : ℕ) → j + m ≤ length_at s (a + i) → nobodys (number m s (a + i + j)) ≡ nobodys (number m t (b + i + j))
    system_alike m j l =
        ap nobodys
        (number_alike m s t (a + i + j) (b + i + j)
        (λ n h. let on : (c : ℕ) → c + i + j + n ≡ c + (i + j + n) = λ c. omega arith in ap (λ (x : ℕ). get_or s x 0) (on a) ∙ is.same (i + j + n) (omega arith) ∙ ap (λ (x : ℕ). get_or t x 0) (sym (on b))))

    body_alike
        : (k : ListKind) → length_fits k (type_at s (a + i)) (area_length_at s (a + i)) (length_at s (a + i)) ≡ true → field_wrong k s (a + i) ≡ field_wrong k t (b + i)
    unfolding field_wrong
    body_alike k fits =
        let u = type_at s (a + i) in
        let x = area_length_at s (a + i) in
        let y = length_at s (a + i) in
        ap₂ (λ (c d : Bool). c || d)
        (ap₂ (λ (c d : Bool). c || d)
        (ap₂ (λ (c d : Bool). c || d)
        (and_alike (eqb u 1) _ _ (λ e. prefix_alike k (fits_1 k x y u fits (eqb-true u 1 e))))
        (and_alike (eqb u 7) _ _ (λ e. padding_alike (fits_7 k x y u fits (eqb-true u 7 e)))))
        (and_alike (eqb u 5) _ _ (λ e. system_alike 4 4 (omega (arith, fits_5 k x y u fits (eqb-true u 5 e))))))
        (and_alike (eqb u 32) _ _ (λ e. system_alike 2 2 (omega (arith, fits_32 k x y u fits (eqb-true u 32 e)))))
        ∙ ap
        (λ (v : ℕ). (eqb v 1 && prefix_wrong k t (b + i)) || (eqb v 7 && padding_wrong t (b + i)) || (eqb v 5 && nobodys (number 4 t (b + i + 4))) || (eqb v 32 && nobodys (number 2 t (b + i + 2))))
        (type_alike i (omega arith))

  -- the form, up to an end inside both
  pub form_alike : (k : ListKind) (e i : ℕ) → e ≤ n → RightForm k s (a + e) (a + i) → RightForm k t (b + e) (b + i)
  form_alike k e i h r =
      let header = r.header in
      let whole = r.whole in
      let l = length_alike i (omega arith) in
      let ty = type_alike i (omega arith) in
      let ar = area_alike i (omega arith) (omega arith) in
      record {
        header = omega arith;
        supported = rw (← ty) r.supported;
        top_right = subst (λ (x : ℕ). top_wrong k (leb 128 x) ≡ false) (is.same i (omega arith)) r.top_right;
        area_in_range = rw (← ty, ← ar) r.area_in_range;
        size_fits = rw (← ty, ← ar, ← l) r.size_fits;
        whole = omega arith;
        body_right = sym (body_alike i (omega arith) (omega arith) k r.size_fits) ∙ r.body_right;
      }

  -- and of the subobjects one after the other
  pub walk-alike
      : (k : ListKind) (fuel e i : ℕ) → e ≤ n
      → checked_along fuel (plain_verdict k s (a + e)) (after_subobject s) (a + e) (a + i) ≡ Pass
      → checked_along fuel (plain_verdict k t (b + e)) (after_subobject t) (b + e) (b + i) ≡ Pass
  unfolding checked_along
  walk-alike k zero e i h p = refl
  walk-alike k (suc fuel) e i h p =
      ⊎_elim
      (λ (l : ltb i e ≡ true).
      let low = ltb-true i e l in
      let both = (and_then_pass (plain_verdict k s (a + e) (a + i)) _).0 (sym (check_step (after_subobject s) (a + e) (plain_verdict k s (a + e)) (a + i) fuel (omega arith)) ∙ p) in
      let r = pass_right both.0 in
      let header = r.header in
      let there = form_alike k e i h r in
      let on : (c : ℕ) → c + i + length_at s (a + i) ≡ c + (i + length_at s (a + i)) = λ c. omega arith in
      let later = walk-alike k fuel e (i + length_at s (a + i)) h (subst (λ (x : ℕ). checked_along fuel (plain_verdict k s (a + e)) (after_subobject s) (a + e) x ≡ Pass) (on a) both.1) in
      check_step (after_subobject t) (b + e) (plain_verdict k t (b + e)) (b + i) fuel (omega arith)
      ∙ ap (λ (v : Verdict). v and_then checked_along fuel (plain_verdict k t (b + e)) (after_subobject t) (b + e) (after_subobject t (b + i))) (right_pass there)
      ∙ ap (checked_along fuel (plain_verdict k t (b + e)) (after_subobject t) (b + e)) (ap (λ (x : ℕ). b + i + x) (sym (length_alike i (omega arith))) ∙ on b)
      ∙ later)
      (λ (l : ltb i e ≡ false).
      let high = ltb-false i e l in
      none_checked (after_subobject t) (b + e) (plain_verdict k t (b + e)) (suc fuel) (b + i) (omega arith))
      (decide (ltb i e))

  -- and of what an EXRS carries
  carried_alike : (i : ℕ) → i + 4 ≤ n → i + length_at s (a + i) ≤ n → carried_verdict s (a + i) ≡ Pass → carried_verdict t (b + i) ≡ Pass
  unfolding carried_verdict
  carried_alike i head inside p =
      let x = length_at s (a + i) in
      let y = length_at t (b + i) in
      let fuel = a + i + x - (a + i + 4) in
      let l = length_alike i (omega arith) in
      let both = (and_then_pass (refuse_if (eqb x 4) 26 (a + i)) _).0 p in
      let on : (c m : ℕ) → c + i + m ≡ c + (i + m) = λ c m. omega arith in
      let walked =
      walk-alike Exclude fuel (i + x) (i + 4) inside
      (ap₂ (λ (u v : ℕ). checked_along fuel (plain_verdict Exclude s u) (after_subobject s) u v) (sym (on a x)) (sym (on a 4)) ∙ both.1) in
      let left : b + i + y - (b + i + 4) ≡ fuel = omega arith in
      (and_then_pass (refuse_if (eqb y 4) 26 (b + i)) _).1 (
        (refuse_if_pass (eqb y 4) 26 (b + i)).1 (ap (λ (m : ℕ). eqb m 4) (sym l) ∙ (refuse_if_pass (eqb x 4) 26 (a + i)).0 both.0),
        ap (λ (m : ℕ). checked_along m (plain_verdict Exclude t (b + i + y)) (after_subobject t) (b + i + y) (b + i + 4)) left
            ∙ ap₂ (λ (u v : ℕ). checked_along fuel (plain_verdict Exclude t u) (after_subobject t) u v) (ap (λ (m : ℕ). b + i + m) (sym l) ∙ on b x) (on b 4)
            ∙ walked,
      )

  carried_if_alike : (c : Bool) (i : ℕ) → i + 4 ≤ n → i + length_at s (a + i) ≤ n → carried_if c s (a + i) ≡ Pass → carried_if c t (b + i) ≡ Pass
  carried_if_alike true i head inside p = carried_alike i head inside p
  carried_if_alike false i head inside p = refl

  -- so the whole form is the same
  pub whole_alike : (k : ListKind) (e i : ℕ) → e ≤ n → subobject_verdict k s (a + e) (a + i) ≡ Pass → subobject_verdict k t (b + e) (b + i) ≡ Pass
  unfolding subobject_verdict
  whole_alike Exclude e i h p = right_pass (form_alike Exclude e i h (pass_right p))
  whole_alike Include e i h p =
      let r = pass_right (plain_of Include s (a + e) (a + i) p) in
      let header = r.header in
      let inside = r.whole in
      both_pass t (b + e) (b + i) (right_pass (form_alike Include e i h r))
      (ap (λ (m : ℕ). carried_if (eqb m 33) t (b + i)) (sym (type_alike i (omega arith)))
      ∙ carried_if_alike (eqb (type_at s (a + i)) 33) i (omega arith) (omega arith) (carried_of s (a + e) (a + i) p))

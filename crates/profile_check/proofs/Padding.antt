-- A list whose places past the first `count` repeat some of these: all of it may be searched, and a number more may be stored at `count`.
use mathlib.Core.Path.{◌≡◌, refl, sym, ap, subst, ◌∙◌}
use mathlib.Core.Bool.{Bool, true, false, cond, ◌||◌, or-false, or-true}
use mathlib.Core.List.{List, [], ◌∷◌, ◌++◌}
use Prim.Native.Nat.{ℕ, suc, ◌+◌, ◌<◌, ◌≤◌}
use native.Mathlib.Numerals.{add-one}
use native.Mathlib.Omega.{arith}
use borrow.Author.Tests.{eqb-true, le-leb}
use lib.ListN.{length, take, drop, set, get_or, replicate, length-set, take-append-drop}
use lib.Seq.{take-suc-set, drop-set-lt, drop-cons}
use lib.Dec.{eqb, leb}
use Rattle.model.specs.Lists.{among}
use Rattle.laws.proofs.Different.{among-append}
use Rattle.profile_check.specs.Noting.{Padded, Added, with_node}

pub snoc_among : (y x : ℕ) (xs : List ℕ) → among y (xs ++ (x ∷ [])) ≡ among y xs || eqb y x
unfolding among
snoc_among y x xs = among-append y xs (x ∷ []) ∙ ap (λ (t : Bool). among y xs || t) (or-false (eqb y x))

-- a number that is there already adds nothing
pub there_already : (y x : ℕ) (xs : List ℕ) → among x xs ≡ true → among y xs ≡ among y xs || eqb y x
there_already y x xs here = sym (go (eqb y x) refl)
  where
    go : (t : Bool) → eqb y x ≡ t → among y xs || t ≡ among y xs
    go true e = or-true (among y xs) ∙ sym (ap (λ (k : ℕ). among k xs) (eqb-true y x e) ∙ here)
    go false e = or-false (among y xs)

pub padded_none : (noted : List ℕ) (count : ℕ) → count ≡ 0 → Padded noted count
padded_none noted count e h = let none : ⊥ = omega arith in absurd none

pub padded-carried : (t : Bool) (noted : List ℕ) (count kept : ℕ) → kept ≡ cond t count 0 → Padded noted count → Padded noted kept
padded-carried true noted count kept e p = subst (Padded noted) (sym e) p
padded-carried false noted count kept e p = padded_none noted kept e

module _ (noted : List ℕ) (count : ℕ) (some : 0 < count) (p : Padded noted count) where
  -- all of the list is searched for what the first places hold
  pub search_all : (y : ℕ) → among y noted ≡ among y (take count noted)
  search_all y =
      ap (among y) (sym (take-append-drop count noted))
      ∙ among-append y (take count noted) (drop count noted)
      ∙ go (among y (drop count noted)) refl
    where
      go : (t : Bool) → among y (drop count noted) ≡ t → among y (take count noted) || t ≡ among y (take count noted)
      go true e = or-true (among y (take count noted)) ∙ sym (p some y e)
      go false e = or-false (among y (take count noted))

  module _ (node : ℕ) (room : count < length noted) where
    stored : take (count + 1) (set noted count node) ≡ take count noted ++ (node ∷ [])
    stored = ap (λ (k : ℕ). take k (set noted count node)) (add-one count) ∙ take-suc-set noted count node room

    pub stored_same : (y : ℕ) → among y (take (count + 1) (set noted count node)) ≡ among y (take count noted) || eqb y node
    stored_same y = ap (among y) stored ∙ snoc_among y node (take count noted)

    pub stored_padded : Padded (set noted count node) (count + 1)
    unfolding among
    stored_padded more y e =
        let rest : drop (count + 1) (set noted count node) ≡ drop (suc count) noted =
        ap (λ (k : ℕ). drop k (set noted count node)) (add-one count) ∙ drop-set-lt (suc count) noted count node (omega arith) in
        let past : among y (drop count noted) ≡ true =
        ap (among y) (drop-cons noted count 0 room) ∙ ap (λ (t : Bool). eqb y (get_or noted count 0) || t) (sym (ap (among y) rest) ∙ e) ∙ or-true (eqb y (get_or noted count 0)) in
        stored_same y ∙ ap (λ (t : Bool). t || eqb y node) (p some y past)

-- a list of one number, written 16 times
pub filled_padded : (node : ℕ) → Padded (replicate 16 node) 1
unfolding among
filled_padded node some y e = go (eqb y node) refl e
  where
    go : (t : Bool) → eqb y node ≡ t
        → t || (t || (t || (t || (t || (t || (t || (t || (t || (t || (t || (t || (t || (t || (t || false)))))))))))))) ≡ true
        → t || false ≡ true
    go true q h = refl
    go false q h = h

-- ---- the four ways of noting a node

pub note_first : (old : List ℕ) (count node : ℕ) → count ≡ 0
    → (1 ≡ cond (among node (take count old)) count (count + 1)) × Added old count node (replicate 16 node) 1
unfolding among
note_first old count node e = (
  rw e refl,
  record {
    long = refl;
    padded = λ _. filled_padded node;
    same = λ _ (y : ℕ). or-false (eqb y node) ∙ sym (ap (λ (k : ℕ). among y (take k old) || eqb y node) e);
  },
)

module _ (old : List ℕ) (count node : ℕ) (some : count ≡ 0 → ⊥) (few : count ≤ 16) (long : length old ≡ 16) (p : Padded old count) where
  pub note_held : among node old ≡ true → (count ≡ cond (among node (take count old)) count (count + 1)) × Added old count node old count
  note_held here =
      let first : among node (take count old) ≡ true = sym (search_all old count (omega arith) p node) ∙ here in (
        rw first refl,
        record { long = long; padded = λ _. p; same = λ _ (y : ℕ). there_already y node (take count old) first },
      )

  pub note_full : among node old ≡ false → count ≡ 16 → (17 ≡ cond (among node (take count old)) count (count + 1)) × Added old count node old 17
  note_full absent full =
      let first : among node (take count old) ≡ false = sym (search_all old count (omega arith) p node) ∙ absent in (
        rw first (omega arith),
        record {
          long = long;
          padded = λ (h : 17 ≤ 16). let none : ⊥ = omega arith in absurd none;
          same = λ (h : 17 ≤ 16). let none : ⊥ = omega arith in absurd none;
        },
      )

  pub note_new : among node old ≡ false → (count ≡ 16 → ⊥) → (count + 1 ≡ cond (among node (take count old)) count (count + 1)) × Added old count node (set old count node) (count + 1)
  note_new absent free =
      let first : among node (take count old) ≡ false = sym (search_all old count (omega arith) p node) ∙ absent in (
        rw first refl,
        record {
          long = length-set old count node ∙ long;
          padded = λ _. stored_padded old count (omega arith) p node (omega arith);
          same = λ _. stored_same old count (omega arith) p node (omega arith);
        },
      )

-- ---- as the code says it

module _ (old : List ℕ) (count node : ℕ) (new : List ℕ) (after : ℕ) where
  pub noted : (after ≡ with_node old count node) × Added old count node new after → after ≤ 16
      → (true ≡ leb (with_node old count node) 16) × Added old count node new (with_node old count node) × (after ≡ with_node old count node)
  noted p few = (subst (λ (k : ℕ). true ≡ leb k 16) p.0 (sym (le-leb after 16 few)), subst (Added old count node new) p.0 p.1, p.0)

-- What stands beside an address among a place's addresses and their numbers is how the address reaches the destination: the numbers are small, they say the
-- reach back, and an address that isn't there reaches nothing. From the laws of the tree.
use mathlib.Core.Path.{◌≡◌, refl, sym, ap, ◌∙◌}
use mathlib.Core.Logic.{⊎_elim}
use mathlib.Core.Bool.{Bool, true, false, not, ◌&&◌}
use mathlib.Core.List.Memᴰ
use mathlib.Core.List.{List, [], ◌∷◌, map, Memᴰ}
use Prim.Native.Nat.{ℕ, suc, ◌+◌, ◌≤◌, ◌<◌}
use native.Mathlib.Nat.{mul-le-mul_right}
use native.Mathlib.Omega.{arith}
use lib.Dec.{eqb, ltb}
use lib.ListN.{length, drop, length-drop}
use borrow.Author.Tests.{eqb-true, eqb-false, eq-eqb, ne_eqb, ltb-false, le-ltb}
use Rattle.model.specs.declared.Hop.{Hop}
use Rattle.model.specs.declared.TreeEntry.{TreeEntry}
use Rattle.model.specs.Profile.{between, cost_limit}
use Rattle.model.specs.Request.{Search}
use Rattle.model.specs.Path.{legs, leg_at, node_excluded_at, place_allows, allowed, total_limit}
use Rattle.model.specs.Tree.{entries_at, suffixes_at}
use Rattle.laws.proofs.Tests.{decide}
use Rattle.laws.proofs.EntryNodes.{mem_entry_nodes}
use Rattle.laws.proofs.PathsAreThePaths.{length_legs}
use Rattle.laws.proofs.SuffixTotals.{suffix-total-bound}
use Rattle.laws.specs.Reach.{Reach, unreached, arrived, least_from, reach_if}
use Rattle.laws.proofs.Reach.{least_from_nil, least_from_some, least_from-unreached}
use Rattle.laws.proofs.TreeLeast.{entry-is, place_end}
use Rattle.tree_levels.specs.Levels.{nodes_if, nodes_at}
use Rattle.tree_reaches.specs.Reaches.{unreachable, code_if, code_of, reach_of, code_at, Small, beside_if, beside}
use Rattle.tree_reaches.proofs.Codes.{reach_none, reach_some}

-- ---- what stands beside, among numbers that a function gives

module _ (f : ℕ → ℕ) where
  pub beside-map : (nodes : List ℕ) {v : ℕ} → Memᴰ v nodes → beside nodes (map f nodes) v ≡ f v
  unfolding beside
  beside-map [] m = absurd (Memᴰ.not-nil m)
  beside-map (a ∷ nodes) {v} m = go (eqb a v) refl (λ n. beside-map nodes n)
    where
      go : (b : Bool) → eqb a v ≡ b → (Memᴰ v nodes → beside nodes (map f nodes) v ≡ f v) → beside_if (eqb a v) (f a) (beside nodes (map f nodes) v) ≡ f v
      go true t further = ap (λ (b : Bool). beside_if b (f a) (beside nodes (map f nodes) v)) t ∙ ap f (eqb-true a v t)
      go false e further =
          ap (λ (b : Bool). beside_if b (f a) (beside nodes (map f nodes) v)) e
          ∙ ⊎_elim (λ (q : v ≡ a). absurd (eqb-false a v e (sym q))) (λ n. further n) (Memᴰ.cases_cons m)

  -- each number keeps what all that the function gives have, and `unreachable` has
  pub beside-any : (P : ℕ → Type 0) → P unreachable → ((a : ℕ) → P (f a)) → (nodes : List ℕ) (v : ℕ) → P (beside nodes (map f nodes) v)
  unfolding beside
  beside-any P none each [] v = none
  beside-any P none each (a ∷ nodes) v = go (eqb a v) (beside-any P none each nodes v)
    where
      go : (b : Bool) → P (beside nodes (map f nodes) v) → P (beside_if b (f a) (beside nodes (map f nodes) v))
      go true further = each a
      go false further = further

pub beside-alone : (a n v : ℕ) → (v ≡ a → ⊥) → beside (a ∷ []) (n ∷ []) v ≡ unreachable
unfolding beside
beside-alone a n v h = ap (λ (b : Bool). beside_if b n unreachable) (ne_eqb a v (λ e. h (sym e)))

-- ---- the number of an address at a place

module _ (S : Search) (few : length S.sequence ≤ 16) (cheap : (h : Hop) → Memᴰ h S.hops → h.cost ≤ cost_limit) where
  abbrev reach_at : ℕ → ℕ → Reach
  reach_at i a = least_from (suffixes_at S i a)

  pub code_is : (i a : ℕ) → code_at S i a ≡ code_of (reach_at i a)
  unfolding code_at
  code_is i a = ap (λ (e : TreeEntry). code_if e.reachable e.cost) (entry-is S i a)

  -- a least cost is that of at most 16 hops
  pub cost-bound : (i a : ℕ) → (reach_at i a).reachable ≡ true → (reach_at i a).cost ≤ total_limit
  cost-bound i a t =
      let r = least_from_some (suffixes_at S i a) t in
      let e = r.2 in
      let b = suffix-total-bound S cost_limit cheap (drop i (legs S.sequence)) i a r.0 r.1 in
      let n : length (drop i (legs S.sequence)) ≤ 16 = omega (arith, length-drop i (legs S.sequence), length_legs S.sequence) in
      omega (arith, mul-le-mul_right cost_limit n)

  pub code_small : (i a : ℕ) → Small (code_at S i a)
  code_small i a h = go (reach_at i a).reachable refl
    where
      go : (b : Bool) → (reach_at i a).reachable ≡ b → cost_limit + code_at S i a < unreachable
      go true t =
          let e = code_is i a ∙ ap (λ (b : Bool). code_if b (reach_at i a).cost) t in
          omega (arith, cost-bound i a t)
      go false f = let e = code_is i a ∙ ap (λ (b : Bool). code_if b (reach_at i a).cost) f in absurd (omega arith)

  -- it says the reach back
  pub reach_back : (i a : ℕ) → reach_of (code_at S i a) ≡ reach_at i a
  reach_back i a = go (reach_at i a).reachable refl
    where
      go : (b : Bool) → (reach_at i a).reachable ≡ b → reach_of (code_at S i a) ≡ reach_at i a
      go true t =
          let e = code_is i a ∙ ap (λ (b : Bool). code_if b (reach_at i a).cost) t in
          let b = cost-bound i a t in
          ap reach_of e ∙ reach_some (reach_at i a).cost (λ q. omega arith) ∙ (λ k. record { reachable = sym t k; cost = (reach_at i a).cost })
      go false f =
          let e = code_is i a ∙ ap (λ (b : Bool). code_if b (reach_at i a).cost) f in
          reach_none (code_at S i a) e ∙ sym (ap least_from (least_from-unreached (suffixes_at S i a) f) ∙ least_from_nil)

  -- at the end only the destination reaches itself
  end_only : (a : ℕ) → (a ≡ S.destination → ⊥) → reach_at (length S.sequence) a ≡ unreached
  unfolding allowed
  end_only a h =
      place_end S a
      ∙ ap (λ (b : Bool). reach_if (not (node_excluded_at S (length S.sequence) a) && place_allows b S (length S.sequence) a) arrived) (le-ltb (length S.sequence) (length S.sequence) (omega arith))
      ∙ ap (λ (b : Bool). reach_if (not (node_excluded_at S (length S.sequence) a) && b) arrived) (ne_eqb a S.destination h)
      ∙ and_none (not (node_excluded_at S (length S.sequence) a))
    where
      and_none : (b : Bool) → reach_if (b && false) arrived ≡ unreached
      and_none true = refl
      and_none false = refl

  -- ---- what stands beside the head of a hop of the leg before a place

  pub head-known
      : (i : ℕ) → i < length S.sequence → (h : Hop) → Memᴰ h S.hops → between (leg_at S i).from (leg_at S i).to h ≡ true
      → reach_of (beside (nodes_at S (suc i)) (map (code_at S (suc i)) (nodes_at S (suc i))) h.head.0) ≡ reach_at (suc i) h.head.0
  unfolding nodes_at entries_at
  head-known i k h m t = go (ltb (suc i) (length S.sequence)) refl
    where
      go
          : (b : Bool) → ltb (suc i) (length S.sequence) ≡ b
          → reach_of (beside (nodes_if b S (suc i)) (map (code_at S (suc i)) (nodes_if b S (suc i))) h.head.0) ≡ reach_at (suc i) h.head.0
      go true l =
          ap reach_of (beside-map (code_at S (suc i)) (entries_at S (suc i)) (mem_entry_nodes (leg_at S i).from (leg_at S i).to S.hops m t))
          ∙ reach_back (suc i) h.head.0
      go false l =
          let last : suc i ≡ length S.sequence = omega (arith, ltb-false (suc i) (length S.sequence) l) in
          ⊎_elim
          (λ (e : eqb h.head.0 S.destination ≡ true).
          ap reach_of (beside-map (code_at S (suc i)) (S.destination ∷ []) (Memᴰ.head (eqb-true h.head.0 S.destination e)))
          ∙ reach_back (suc i) h.head.0)
          (λ (e : eqb h.head.0 S.destination ≡ false).
          let apart = eqb-false h.head.0 S.destination e in
          ap reach_of (beside-alone S.destination (code_at S (suc i) S.destination) h.head.0 apart)
          ∙ reach_none unreachable refl
          ∙ sym (ap (λ (j : ℕ). reach_at j h.head.0) last ∙ end_only h.head.0 apart))
          (decide (eqb h.head.0 S.destination))

  -- at the end the destination reaches itself at no cost, unless it is excluded
  pub end_code : code_at S (length S.sequence) S.destination ≡ code_if (not (node_excluded_at S (length S.sequence) S.destination)) 0
  unfolding allowed
  end_code =
      code_is (length S.sequence) S.destination
      ∙ ap code_of
      (place_end S S.destination
      ∙ ap (λ (b : Bool). reach_if (not (node_excluded_at S (length S.sequence) S.destination) && place_allows b S (length S.sequence) S.destination) arrived)
      (le-ltb (length S.sequence) (length S.sequence) (omega arith))
      ∙ ap (λ (b : Bool). reach_if (not (node_excluded_at S (length S.sequence) S.destination) && b) arrived) (eq-eqb S.destination S.destination refl))
      ∙ go (not (node_excluded_at S (length S.sequence) S.destination))
    where
      go : (b : Bool) → code_of (reach_if (b && true) arrived) ≡ code_if b 0
      go true = refl
      go false = refl

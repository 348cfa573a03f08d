-- An accepted profile has at most 16 entry nodes for each pair of different domains. From the check at each hop record: a record of the pair bounds those up to
-- it, and any other record brings none. (That entry nodes ascend and are the heads of the pair's hops is said of any list of hops.)
use Prim.Native.Nat.{ℕ, zero, suc, ◌≤◌, ◌<◌}
use native.Mathlib.Omega.{arith}
use mathlib.Core.Path.{◌≡◌, sym, ap, subst, subst₂, ◌∙◌}
use mathlib.Core.Logic.{◌≢◌, ⊎_elim}
use mathlib.Core.Bool.{Bool, true, false, not}
use mathlib.Core.List.{List, [], ◌∷◌, ◌++◌, map, append-nil, Memᴰ}
use lib.ListN.{length, take}
use lib.Seq.{take_all}
use lib.Dec.{eqb}
use borrow.Author.Tests.{ltb-false, ne_eqb}
use Rattle.model.specs.declared.Hop.{Hop}
use Rattle.model.specs.Lists.{keep_if, keep, different}
use Rattle.model.specs.Profile.{Layout, hop_count, hop_at, hops, between, entry_nodes, crowded}
use Rattle.laws.proofs.Tests.{decide, and-false}
use Rattle.laws.specs.Sorted.{Sorted}
use Rattle.laws.proofs.Lists.{keep_append, keep_mem, mem_keep, map_mem, mem-map}
use Rattle.laws.proofs.ProfileLists.{different_mem, mem_different, different-ascending}
use Rattle.laws.proofs.Records.{length-hops, take-hops}
use Rattle.laws.proofs.HopKeys.{between-both}
use Rattle.laws.proofs.Accepted.{AcceptedProfile}

-- ---- entry nodes of any list of hops

abbrev head_of : Hop → ℕ
head_of h = h.head.0

module _ (d e : ℕ) where
  pub entry_nodes-ascending : (hs : List Hop) → Sorted ◌<◌ (entry_nodes d e hs)
  unfolding entry_nodes
  entry_nodes-ascending hs = different-ascending (map head_of (keep (between d e) hs))

  -- an entry node is the head of a hop of the pair
  pub entry_nodes_mem : (hs : List Hop) {v : ℕ} → Memᴰ v (entry_nodes d e hs) → (h : Hop) × Memᴰ h hs × (between d e h ≡ true) × (v ≡ h.head.0)
  unfolding entry_nodes
  entry_nodes_mem hs m =
      let r = map_mem head_of (keep (between d e) hs) (different_mem (map head_of (keep (between d e) hs)) m) in
      let k = keep_mem (between d e) hs r.1 in
      (r.0, k.0, k.1, r.2)

  pub mem_entry_nodes : (hs : List Hop) {h : Hop} → Memᴰ h hs → between d e h ≡ true → Memᴰ h.head.0 (entry_nodes d e hs)
  unfolding entry_nodes
  mem_entry_nodes hs m t = mem_different (map head_of (keep (between d e) hs)) (mem-map head_of (mem_keep (between d e) m t))

  pub entry_nodes-off : (hs : List Hop) (h : Hop) → between d e h ≡ false → entry_nodes d e (hs ++ (h ∷ [])) ≡ entry_nodes d e hs
  unfolding entry_nodes keep
  entry_nodes-off hs h f =
      ap (λ (gs : List Hop). different (map head_of gs))
      (keep_append (between d e) hs (h ∷ []) ∙ ap (λ (b : Bool). keep (between d e) hs ++ keep_if b h []) f ∙ append-nil (keep (between d e) hs))

-- ---- at most 16

module _ (L : Layout) (s : List ℕ) (a : AcceptedProfile L s) where
  -- a hop record of the pair: the check at it
  at_hop : (d e : ℕ) → d ≢ e → (i : ℕ) → i < hop_count s → between d e (hop_at L s i) ≡ true → length (entry_nodes d e (take (suc i) (hops L s))) ≤ 16
  unfolding crowded
  at_hop d e apart i k t =
      let h = hop_at L s i in
      let ends = between-both d e h t in
      let differ : h.from.0 ≡ h.to.0 → ⊥ = λ q. apart (sym ends.0 ∙ q ∙ ends.1) in
      let within = ltb-false _ _ (and-false (not (eqb h.from.0 h.to.0)) _ (a.hop i k).uncrowded (ap not (ne_eqb _ _ differ))) in
      subst₂ (λ (x y : ℕ). length (entry_nodes x y (take (suc i) (hops L s))) ≤ 16) ends.0 ends.1 within

  up_to : (d e : ℕ) → d ≢ e → (n : ℕ) → n ≤ hop_count s → length (entry_nodes d e (take n (hops L s))) ≤ 16
  unfolding entry_nodes keep different
  up_to d e apart zero k = omega arith
  up_to d e apart (suc n) k =
      let before = up_to d e apart n (omega arith) in
      ⊎_elim
      (λ (t : between d e (hop_at L s n) ≡ true). at_hop d e apart n k t)
      (λ (f : between d e (hop_at L s n) ≡ false).
      subst (λ (xs : List ℕ). length xs ≤ 16) (sym (ap (entry_nodes d e) (take-hops L s n k) ∙ entry_nodes-off d e (take n (hops L s)) (hop_at L s n) f)) before)
      (decide (between d e (hop_at L s n)))

  pub entry_nodes-bound : (d e : ℕ) → d ≢ e → length (entry_nodes d e (hops L s)) ≤ 16
  entry_nodes-bound d e apart =
      subst (λ (hs : List Hop). length (entry_nodes d e hs) ≤ 16) (take_all (hop_count s) (hops L s) (omega (arith, length-hops L s)))
      (up_to d e apart (hop_count s) (omega arith))

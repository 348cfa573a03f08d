-- The nodes at a place: its entries, or behind the last domain the destination; ascending, and at most 16, since the profile was accepted and the domains are
-- different.
use Prim.Native.Nat.{ℕ, zero, suc, ◌≤◌, ◌<◌}
use native.Mathlib.Omega.{arith}
use mathlib.Core.Path.{◌≡◌, refl, sym, ap, subst}
use mathlib.Core.Bool.{Bool, true, false}
use mathlib.Core.List.Memᴰ
use mathlib.Core.List.{List, [], ◌∷◌}
use lib.Dec.{ltb}
use lib.ListN.{length}
use borrow.Author.Tests.{ltb-true, lt-ltb, le-ltb}
use Rattle.model.specs.Verdict.{Pass}
use Rattle.model.specs.declared.NamedStop.{NamedStop}
use Rattle.model.specs.declared.Hop.{Hop}
use Rattle.model.specs.Profile.{Layout, entry_nodes, profile_verdict}
use Rattle.model.specs.Request.{Search}
use Rattle.model.specs.Path.{leg_at}
use Rattle.model.specs.Tree.{entries_at}
use Rattle.laws.specs.Sorted.{Sorted}
use Rattle.laws.proofs.Accepted.{accepted}
use Rattle.laws.proofs.EntryNodes.{entry_nodes-ascending, entry_nodes-bound}
use Rattle.tree_levels.specs.Levels.{nodes_if, nodes_at, Several, Covers}
use Rattle.tree_levels.proofs.Legs.{count-is, leg-apart}

pub nodes_here : (S : Search) (i : ℕ) → i < length S.sequence → nodes_at S i ≡ entries_at S i
unfolding nodes_at
nodes_here S i h = ap (λ (b : Bool). nodes_if b S i) (lt-ltb i (length S.sequence) h)

pub nodes-behind : (S : Search) → nodes_at S (length S.sequence) ≡ S.destination ∷ []
unfolding nodes_at
nodes-behind S = ap (λ (b : Bool). nodes_if b S (length S.sequence)) (le-ltb (length S.sequence) (length S.sequence) (omega arith))

-- ---- ascending

alone : (v : ℕ) → Sorted ◌<◌ (v ∷ [])
alone v = (λ y m. absurd (Memᴰ.not-nil m), tt)

pub nodes-ascending : (S : Search) (i : ℕ) → Sorted ◌<◌ (nodes_at S i)
unfolding nodes_at entries_at
nodes-ascending S i = go (ltb i (length S.sequence)) i
  where
    go : (b : Bool) (i : ℕ) → Sorted ◌<◌ (nodes_if b S i)
    go true zero = alone S.source
    go true (suc i) = entry_nodes-ascending (leg_at S i).from (leg_at S i).to S.hops
    go false i = alone S.destination

-- ---- at most 16

pub nodes-few
    : (S : Search) (L : Layout) (s : List ℕ) (stops : List NamedStop) (count source destination : ℕ)
    → profile_verdict L s ≡ Pass
    → Several stops count
    → Covers S L s stops count source destination
    → (i : ℕ) → length (nodes_at S i) ≤ 16
unfolding nodes_at entries_at
nodes-few S L s stops count source destination passed several covers i = go (ltb i (length S.sequence)) i refl
  where
    go : (b : Bool) (i : ℕ) → ltb i (length S.sequence) ≡ b → length (nodes_if b S i) ≤ 16
    go true zero t = omega arith
    go true (suc i) t =
        subst (λ (hs : List Hop). length (entry_nodes (leg_at S i).from (leg_at S i).to hs) ≤ 16) (sym covers.hops_are)
        (entry_nodes-bound L s (accepted L s passed) (leg_at S i).from (leg_at S i).to
        (leg-apart S L s stops count source destination several covers i
        (omega (arith, ltb-true (suc i) (length S.sequence) t, count-is S L s stops count source destination several covers))))
    go false i f = omega arith

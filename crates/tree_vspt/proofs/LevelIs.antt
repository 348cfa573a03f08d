-- One domain's step gives the numbers of its entries by the definition of the tree: the leg's tests are those of `allowed`, and each hop record's way on is the
-- way through its head. From the law of the tree's step, record by record.
use mathlib.Core.Path.{◌≡◌, refl, sym, ap, ap₂, ◌∙◌}
use mathlib.Core.Bool.{Bool, true, false, not, ◌&&◌}
use mathlib.Core.List.{List, map, Memᴰ}
use Prim.Native.Nat.{ℕ, suc, ◌≤◌, ◌<◌}
use lib.Dec.{eqb}
use lib.ListN.{length}
use lib.Seq.{slice}
use borrow.Author.Tests.{lt-ltb}
use Rattle.model.specs.declared.Hop.{Hop}
use Rattle.model.specs.Profile.{Layout, hops, between, cost_limit}
use Rattle.model.specs.Exclusion.{excluded_node}
use Rattle.model.specs.Floats.{at_least}
use Rattle.model.specs.Request.{Search}
use Rattle.model.specs.Path.{leg_at, node_excluded_at, keeps_pin, place_allows, allowed, leaves, hops_from}
use Rattle.model.specs.Tree.{suffixes_at}
use Rattle.laws.specs.Lists.{Lists}
use Rattle.laws.specs.Reach.{unreached, least_from, reach_if, via, best_from}
use Rattle.laws.proofs.Reach.{best_from_agree, best_from-keep}
use Rattle.laws.proofs.TreeLeast.{place-step}
use Rattle.profile_hop_range.specs.Ranges.{leaves_node}
use Rattle.tree_levels.specs.Levels.{nodes_at}
use Rattle.tree_step.specs.declared.Leg.{Leg}
use Rattle.tree_vspt.specs.Leg.{LegIs}
use Rattle.tree_reaches.specs.Reaches.{code_of, reach_of, code_at, beside, way_on}
use Rattle.tree_step.specs.Step.{leg_exclusions, allowed_by, entry_reach, entry_code, level_codes}
use Rattle.tree_vspt.proofs.Known.{code_is, head-known}

module _
    (S : Search) (L : Layout) (s : List ℕ) (lists : Lists) (few : length S.sequence ≤ 16) (cheap : (h : Hop) → Memᴰ h S.hops → h.cost ≤ cost_limit)
    (hops_are : S.hops ≡ hops L s) (i : ℕ) (k : i < length S.sequence) (leg : Leg) (is : LegIs S lists i leg)
  where
    tests : (a : ℕ) → allowed_by (leg_exclusions lists leg) leg.excluded leg.pin a ≡ allowed S i a
    unfolding allowed
    tests a =
        (λ j. not (excluded_node (is.exclusions_are j) a) && (not (is.excluded-is j) && keeps_pin (is.pin-is j) a))
        ∙ sym (ap (λ (b : Bool). not (node_excluded_at S i a) && place_allows b S i a) (lt-ltb i (length S.sequence) k))

    abbrev pub nodes : List ℕ
    nodes = nodes_at S (suc i)

    abbrev pub codes : List ℕ
    codes = map (code_at S (suc i)) nodes

    -- one hop record's way on, tested in the two orders
    same_way
        : (a : ℕ) (h : Hop) → Memᴰ h S.hops
        → reach_if (leaves_node leg.from.0 leg.to.0 a h) (way_on S.limits.bandwidth nodes codes h)
        ≡ reach_if (leaves S (leg_at S i) a h) (via h.cost (least_from (suffixes_at S (suc i) h.head.0)))
    same_way a h m =
        (λ j. reach_if (leaves_node (is.from_is j) (is.to_is j) a h) (way_on S.limits.bandwidth nodes codes h))
        ∙ go (between (leg_at S i).from (leg_at S i).to h) refl (eqb h.tail.0 a) (at_least S.limits.bandwidth h.bandwidth)
      where
        go
            : (b : Bool) → between (leg_at S i).from (leg_at S i).to h ≡ b → (t u : Bool)
            → reach_if (b && t) (reach_if u (via h.cost (reach_of (beside nodes codes h.head.0))))
            ≡ reach_if (b && (t && u)) (via h.cost (least_from (suffixes_at S (suc i) h.head.0)))
        go true e true true = ap (via h.cost) (head-known S few cheap i k h m e)
        go true e true false = refl
        go true e false u = refl
        go false e t u = refl

    -- the entry's reach is the one of the tree
    pub entry_reach_is : (a : ℕ) → entry_reach L s lists leg S.limits.bandwidth nodes codes a ≡ least_from (suffixes_at S i a)
    unfolding hops_from
    entry_reach_is a =
        ap₂ reach_if (tests a)
        (best_from-keep unreached (leaves_node leg.from.0 leg.to.0 a) (way_on S.limits.bandwidth nodes codes) (hops L s)
        ∙ ap (best_from unreached (λ (h : Hop). reach_if (leaves_node leg.from.0 leg.to.0 a h) (way_on S.limits.bandwidth nodes codes h))) (sym hops_are)
        ∙ best_from_agree unreached _ _ S.hops (same_way a)
        ∙ sym (best_from-keep unreached (leaves S (leg_at S i) a) (λ (h : Hop). via h.cost (least_from (suffixes_at S (suc i) h.head.0))) S.hops))
        ∙ sym (place-step S i a k)

    pub entry_code_is : (a : ℕ) → entry_code L s lists leg S.limits.bandwidth nodes codes a ≡ code_at S i a
    entry_code_is a = ap code_of (entry_reach_is a) ∙ sym (code_is S few cheap i a)

    -- so the step's numbers are those of the place, over lists that hold the addresses and the next place's numbers
    pub level-codes-is
        : (addresses ns : List ℕ)
        → slice leg.start leg.next addresses ≡ nodes_at S i
        → slice leg.next leg.end addresses ≡ nodes
        → slice leg.next leg.end ns ≡ codes
        → level_codes L s lists leg S.limits.bandwidth addresses ns ≡ map (code_at S i) (nodes_at S i)
    level-codes-is addresses ns here next known =
        (λ j. map (entry_code L s lists leg S.limits.bandwidth (next j) (known j)) (here j))
        ∙ (λ j. map (λ (a : ℕ). entry_code_is a j) (nodes_at S i))

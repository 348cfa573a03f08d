-- The recursion over the sequence, one call at a time, over plain lists: the last place is the destination's, and one step before what is written writes one place
-- more. From the laws of one step and of numbers written one before the other.
use mathlib.Core.Path.{◌≡◌, refl, sym, ap, ap₂, subst, subst₂, ◌∙◌}
use mathlib.Core.Bool.{not}
use mathlib.Core.List.{List, map, Memᴰ}
use Prim.Native.Nat.{ℕ, suc, ◌+◌, ◌-◌, ◌≤◌, ◌<◌}
use native.Mathlib.Omega.{arith}
use lib.ListN.{length, get_or, set, length-map}
use lib.Seq.{slice, paste, length-paste}
use Rattle.model.specs.declared.Hop.{Hop}
use Rattle.model.specs.Profile.{Layout, cost_limit}
use Rattle.model.specs.Subobject.{Subobject, subobjects}
use Rattle.model.specs.Exclusion.{in_force, excluded_node}
use Rattle.model.specs.Request.{Search}
use Rattle.laws.specs.Lists.{Lists}
use Rattle.laws.proofs.AcceptedPaths.{accepted-costs}
use Rattle.tree_levels.specs.Levels.{nodes_at, start_of}
use Rattle.tree_levels.proofs.Blocks.{place-nodes}
use Rattle.request.specs.declared.Query.{Query}
use Rattle.request.specs.Query.{search_for, Ready}
use Rattle.tree_step.specs.declared.Leg.{Leg}
use Rattle.tree_vspt.specs.Leg.{LegIs}
use Rattle.tree_reaches.specs.Reaches.{code_if, code_at, NextPlace}
use Rattle.tree_step.specs.Step.{level_codes}
use Rattle.tree_vspt.specs.Tree.{Holds, HoldsFrom, filled_at, filled_from, LaidOutFor}
use Rattle.tree_vspt.proofs.Filled.{level-long, starts_later, end-nodes, filled_end, Filled-more, filled_first, filled_long, filled_holds, holds-first, holds_more, filled-before}
use Rattle.tree_vspt.proofs.Known.{end_code}
use Rattle.tree_vspt.proofs.Next.{next-place-of}
use Rattle.tree_vspt.proofs.LevelIs.{level-codes-is}
use Rattle.tree_vspt.proofs.Sequences.{stops-long, end-exclusions}

module _
    (L : Layout) (s : List ℕ) (lists : Lists) (q : Query) (most : L.most_cost ≤ cost_limit) (ready : Ready L s lists q)
    (addresses starts firsts lasts : List ℕ) (out : LaidOutFor L s lists q addresses starts firsts lasts)
  where
    abbrev S : Search
    S = search_for L s lists q

    few : length S.sequence ≤ 16
    few = omega (arith, stops-long lists.include q, ready.most)

    cheap : (h : Hop) → Memᴰ h S.hops → h.cost ≤ cost_limit
    cheap h m = let k = accepted-costs L s ready.profile-right h m in omega arith

    pub starts_by : (i : ℕ) → i ≤ suc q.count → start_of S i ≤ 242
    starts_by i h = omega (arith, out.laid.fits, starts_later S i (suc (length S.sequence)) (omega (arith, stops-long lists.include q)))

    later : (i : ℕ) → start_of S i ≤ start_of S (suc i)
    later i = omega (arith, level-long S i)

    -- ---- the last place

    pub end-inside : (i : ℕ) → i ≡ q.count → get_or starts i 0 < 242
    end-inside i e =
        let at = out.laid.starts_are i (omega (arith, stops-long lists.include q)) in
        let nodes = ap length (end-nodes S i (e ∙ sym (stops-long lists.include q))) in
        let m = length-map (nodes_at S i) (code_at S i) in
        let next = level-long S i in
        omega (arith, starts_by (suc i) (omega arith))

    pub filled-last
        : (i : ℕ) (d : List ℕ) (value : ℕ) → i ≡ q.count → length d ≡ 242
        → value ≡ code_if (not (excluded_node (in_force q.round (subobjects lists.exclude)) q.destination.0)) 0
        → set d (get_or starts i 0) value ≡ filled_from S i 1 d
    filled-last i d value e long v =
        let n : i ≡ length S.sequence = e ∙ sym (stops-long lists.include q) in
        let at = out.laid.starts_are i (omega (arith, stops-long lists.include q)) in
        ap₂ (set d) at
        (v
        ∙ ap (λ (xs : List Subobject). code_if (not (excluded_node xs q.destination.0)) 0) (sym (end-exclusions L s lists q))
        ∙ sym (end_code S few cheap)
        ∙ ap (λ (k : ℕ). code_at S k S.destination) (sym n))
        ∙ filled_end S i d n (omega (arith, end-inside i e))

    -- ---- one place, from the one after it

    module _ (i : ℕ) (h : i < q.count) (mid : List ℕ) (long : length mid ≡ 242) (holds : Holds S (suc i) mid) (leg : Leg) (is : LegIs S lists i leg) where
      here_nodes : slice leg.start leg.next addresses ≡ nodes_at S i
      here_nodes =
          (λ j. slice (is.start_is j) (is.next-is j) addresses)
          ∙ place-nodes S L s addresses starts firsts lasts out.examined out.laid i (omega (arith, stops-long lists.include q))

      next_nodes_lem : slice leg.next leg.end addresses ≡ nodes_at S (suc i)
      next_nodes_lem =
          (λ j. slice (is.next-is j) (is.end_is j) addresses)
          ∙ place-nodes S L s addresses starts firsts lasts out.examined out.laid (suc i) (omega (arith, stops-long lists.include q))

      known : slice leg.next leg.end mid ≡ map (code_at S (suc i)) (nodes_at S (suc i))
      known = (λ j. slice (is.next-is j) (is.end_is j) mid) ∙ holds

      pub in_order : leg.start ≤ leg.next
      in_order = let a = is.start_is in let b = is.next-is in omega (arith, later i)

      pub next_place : NextPlace addresses mid leg.next leg.end
      next_place =
          subst₂ (NextPlace addresses mid) (sym is.next-is) (sym is.end_is)
          (next-place-of S L s addresses starts firsts lasts out.examined out.laid (suc i) (omega (arith, stops-long lists.include q)) few cheap mid
          (omega (arith, starts_by (suc (suc i)) (omega arith))) holds)

      pub placed
          : (exit : List ℕ) → exit ≡ paste mid leg.start (level_codes L s lists leg q.limits.bandwidth addresses mid) (leg.next - leg.start)
          → exit ≡ filled_at S i mid
      placed exit e =
          let codes = level-codes-is S L s lists few cheap refl i (omega (arith, stops-long lists.include q)) leg is addresses mid here_nodes next_nodes_lem known in
          let count : leg.next - leg.start ≡ length (map (code_at S i) (nodes_at S i)) = let a = is.start_is in let b = is.next-is in omega (arith, level-long S i) in
          e ∙ (λ j. paste mid (is.start_is j) (codes j) (count j))

    -- what is written keeps the length
    pub placed-long : (i : ℕ) → i < q.count → (mid exit : List ℕ) → length mid ≡ 242 → exit ≡ filled_at S i mid → length exit ≡ length mid
    placed-long i h mid exit long e =
        ap length e
        ∙ length-paste mid (start_of S i) (map (code_at S i) (nodes_at S i)) (length (map (code_at S i) (nodes_at S i)))
        (omega (arith, level-long S i, starts_by (suc i) (omega arith))) (omega arith)

    -- ---- a place before those written

    module _ (i m : ℕ) (h : i + suc m ≡ q.count) (d mid : List ℕ) (long : length d ≡ 242) (written : mid ≡ filled_from S (suc i) (suc m) d) where
      pub mid_long : length mid ≡ 242
      mid_long = ap length written ∙ filled_long S (suc i) (suc m) d (omega (arith, starts_by (suc i + suc m) (omega arith))) ∙ long

      pub next_codes_lem : Holds S (suc i) mid
      next_codes_lem = ap (slice (start_of S (suc i)) (start_of S (suc (suc i)))) written ∙ filled_first S (suc i) m d (omega (arith, starts_by (suc i) (omega arith)))

      pub written_stands : HoldsFrom S (suc i) mid
      written_stands =
          subst (HoldsFrom S (suc i)) (sym written)
          (filled_holds S (suc i) (suc m) d (omega (arith, stops-long lists.include q)) (omega (arith, starts_by (suc i) (omega arith))))

      pub filled_step : (exit : List ℕ) → exit ≡ filled_at S i mid → exit ≡ filled_from S i (suc (suc m)) d
      filled_step exit e = e ∙ ap (filled_at S i) written ∙ Filled-more S i (suc m) d (omega (arith, starts_by (suc i) (omega arith)))

    -- ---- a place before those that stand

    module _ (n i : ℕ) (e : suc i ≡ n) (h : n ≤ q.count) (d : List ℕ) (long : length d ≡ 242) (stands : HoldsFrom S n d) where
      from_next : HoldsFrom S (suc i) d
      from_next = subst (λ (k : ℕ). HoldsFrom S k d) (sym e) stands

      pub stands_next : Holds S (suc i) d
      stands_next = holds-first S (suc i) d (omega (arith, stops-long lists.include q)) from_next

      pub stands_more : (mid : List ℕ) → mid ≡ filled_at S i d → HoldsFrom S i mid
      stands_more mid w =
          subst (HoldsFrom S i) (sym w) (holds_more S i d (omega (arith, stops-long lists.include q)) (omega (arith, starts_by i (omega arith))) from_next)

      pub filled_from_lem : (mid exit : List ℕ) → mid ≡ filled_at S i d → exit ≡ filled_from S 0 i mid → exit ≡ filled_from S 0 n d
      filled_from_lem mid exit w f =
          f
          ∙ ap (filled_from S 0 i) w
          ∙ filled-before S i d (omega (arith, starts_by i (omega arith)))
          ∙ ap (λ (k : ℕ). filled_from S 0 k d) e

    -- what is written before place n keeps the length
    pub before-long : (n : ℕ) → n ≤ q.count → (d exit : List ℕ) → length d ≡ 242 → exit ≡ filled_from S 0 n d → length exit ≡ length d
    before-long n h d exit long e = ap length e ∙ filled_long S 0 n d (omega (arith, starts_by (0 + n) (omega arith)))

-- A place of the sequence as it reads once the tree is worked out: its leg and the leg's hop records, and the numbers that stand beside the next place's nodes.
-- From what was laid out, and from lists laid one after the other.
use mathlib.Core.Path.{◌≡◌, sym, ap, subst, subst₂, ◌∙◌}
use mathlib.Core.List.{List, ◌++◌, map, Memᴰ}
use Prim.Native.Nat.{ℕ, suc, ◌+◌, ◌-◌, ◌≤◌, ◌<◌}
use native.Mathlib.Nat.{zero-add}
use native.Mathlib.Omega.{arith}
use lib.ListN.{length, drop, get_or, take-append-drop, length-take}
use lib.Seq.{slice}
use Rattle.model.specs.declared.Hop.{Hop}
use Rattle.model.specs.Lists.{count_from, each}
use Rattle.model.specs.Profile.{Layout, cost_limit}
use Rattle.model.specs.Sequence.{Stop}
use Rattle.model.specs.Request.{Search}
use Rattle.model.specs.Path.{Leg, legs, leg_at, no_leg}
use Rattle.laws.proofs.AcceptedPaths.{accepted-costs}
use Rattle.profile_hop_range.specs.Ranges.{PairRange}
use Rattle.tree_levels.specs.Levels.{nodes_at, nodes_up_to, start_of}
use Rattle.tree_levels.proofs.Blocks.{each-block, place-nodes}
use Rattle.request.specs.declared.Query.{Query}
use Rattle.request.specs.Query.{query_domain}
use Rattle.tree_vspt.specs.Leg.{next_place}
use Rattle.tree_reaches.specs.Reaches.{code_at, NextPlace}
use Rattle.tree_vspt.specs.Tree.{codes_from, WorkedOut}
use Rattle.tree_vspt.proofs.Filled.{codes-long}
use Rattle.tree_vspt.proofs.Next.{next-place-of}
use Rattle.tree_vspt.proofs.Sequences.{stops-long, leg_of}
use Rattle.path_step.specs.declared.WorkedTree.{WorkedTree}
use Rattle.path_step.specs.Worked.{layout_in, Worked}

-- ---- the numbers of a place

starts_at : (S : Search) (k : ℕ) → length (codes_from S 0 k) ≡ start_of S k
unfolding nodes_up_to each count_from
starts_at S k = sym (zero-add (length (codes_from S 0 k))) ∙ codes-long S 0 k ∙ ap (start_of S) (zero-add k)

-- they stand between its start and the next one's, beside its nodes
pub place-codes
    : (S : Search) (L : Layout) (s addresses codes starts firsts lasts : List ℕ) (examined : ℕ)
    → WorkedOut L s S addresses codes starts firsts lasts examined
    → (i : ℕ) → i ≤ length S.sequence → slice (start_of S i) (start_of S (suc i)) codes ≡ map (code_at S i) (nodes_at S i)
unfolding codes_from
place-codes S L s addresses codes starts firsts lasts examined out i h =
    let n = suc (length S.sequence) in
    let rest = drop (start_of S n) codes in
    (λ j. slice (sym (starts_at S i) j) (sym (starts_at S (suc i)) j) (sym (take-append-drop (start_of S n) codes) j))
    ∙ ap (λ (l : List ℕ). slice (length (codes_from S 0 i)) (length (codes_from S 0 (suc i))) (l ++ rest)) out.codes_are
    ∙ each-block (λ (j : ℕ). map (code_at S j) (nodes_at S j)) n i rest (omega arith)

-- ---- a place of the query's sequence

module _
    (S : Search) (T : WorkedTree) (w : Worked S T) (i : ℕ) (h : i < T.query.count)
  where
    abbrev L : Layout
    L = layout_in T

    abbrev s : List ℕ
    s = T.profile.now

    abbrev q : Query
    q = T.query

    abbrev addresses : List ℕ
    addresses = T.levels.now.addresses

    abbrev codes : List ℕ
    codes = T.reaches.now

    abbrev starts : List ℕ
    starts = T.levels.now.starts

    abbrev firsts : List ℕ
    firsts = T.levels.now.firsts

    abbrev lasts : List ℕ
    lasts = T.levels.now.lasts

    long : length S.sequence ≡ q.count
    long = ap length w.sequence-is ∙ stops-long w.include q

    pub in_sequence : i < length S.sequence
    in_sequence = omega (arith, long)

    pub few : length S.sequence ≤ 16
    few = omega (arith, long, w.most)

    pub cheap : (x : Hop) → Memᴰ x S.hops → x.cost ≤ cost_limit
    cheap x m =
        let k = accepted-costs L s w.right.passed x (subst (λ (hs : List Hop). Memᴰ x hs) w.hops_are m) in
        omega (arith, w.right.layout.cheap)

    pub leg-is : leg_at S i ≡ record { from = query_domain q i; to = query_domain q (next_place q.count i) }
    leg-is = ap (λ (l : List Stop). get_or (legs l) i no_leg) w.sequence-is ∙ leg_of w.include q i h

    pub leg-range : PairRange L s (query_domain q i) (query_domain q (next_place q.count i)) (get_or firsts i 0) (get_or lasts i 0)
    leg-range = subst (λ (leg : Leg). PairRange L s leg.from leg.to (get_or firsts i 0) (get_or lasts i 0)) leg-is (w.out.laid.ranges i in_sequence)

    -- ---- the next place

    from_is : get_or starts (suc i) 0 ≡ start_of S (suc i)
    from_is = w.out.laid.starts_are (suc i) (omega (arith, long))

    to_is : get_or starts (suc (suc i)) 0 ≡ start_of S (suc (suc i))
    to_is = w.out.laid.starts_are (suc (suc i)) (omega (arith, long))

    pub next_nodes_lem : slice (get_or starts (suc i) 0) (get_or starts (suc (suc i)) 0) addresses ≡ nodes_at S (suc i)
    next_nodes_lem =
        (λ j. slice (from_is j) (to_is j) addresses)
        ∙ place-nodes S L s addresses starts firsts lasts w.examined w.out.laid (suc i) (omega (arith, long))

    pub next_codes_lem : slice (get_or starts (suc i) 0) (get_or starts (suc (suc i)) 0) codes ≡ map (code_at S (suc i)) (nodes_at S (suc i))
    next_codes_lem =
        (λ j. slice (from_is j) (to_is j) codes)
        ∙ place-codes S L s addresses codes starts firsts lasts w.examined w.out (suc i) (omega (arith, long))

    -- the numbers' list holds it
    in_codes : start_of S (suc (suc i)) ≤ length codes
    in_codes =
        let n = suc (length S.sequence) in
        let e : suc (suc i) + (n - suc (suc i)) ≡ n = omega (arith, long) in
        let m = ap (start_of S) e in
        let all = ap length w.out.codes_are ∙ starts_at S n in
        omega (arith, codes-long S (suc (suc i)) (n - suc (suc i)), length-take (start_of S n) codes)

    pub next_place_lem : NextPlace addresses codes (get_or starts (suc i) 0) (get_or starts (suc (suc i)) 0)
    next_place_lem =
        subst₂ (NextPlace addresses codes) (sym from_is) (sym to_is)
        (next-place-of S L s addresses starts firsts lasts w.examined w.out.laid (suc i) (omega (arith, long)) few cheap codes in_codes
        (place-codes S L s addresses codes starts firsts lasts w.examined w.out (suc i) (omega (arith, long))))

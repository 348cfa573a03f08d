-- The source's number in a tree of right numbers: it stands first, it is small, and it says whether the search has an admissible path. From the laws of the
-- tree, and since the least total decides about the bound.
use mathlib.Core.Path.{◌≡◌, refl, sym, ap, ap₂, ◌∙◌}
use mathlib.Core.Logic.{⊎_elim}
use mathlib.Core.Bool.{Bool, true, false, not, ◌&&◌}
use mathlib.Core.List.{List, [], ◌∷◌, ◌++◌, map, Memᴰ}
use Prim.Native.Nat.{ℕ, suc, ◌≤◌, ◌<◌}
use native.Mathlib.Omega.{arith}
use lib.Dec.{eqb}
use lib.ListN.{length, get_or, length-append}
use lib.Seq.{get_or-take}
use borrow.Author.Tests.{eqb-true, eqb-false, lt-ltb}
use Rattle.model.specs.declared.Hop.{Hop}
use Rattle.model.specs.Lists.{is_empty, count_from, each}
use Rattle.model.specs.Profile.{Layout, cost_limit}
use Rattle.model.specs.Request.{Search}
use Rattle.model.specs.Path.{legs, keeps_bound, paths, admissible, total_limit}
use Rattle.model.specs.Tree.{entries_at}
use Rattle.laws.specs.Lists.{Lists}
use Rattle.laws.proofs.Tests.{decide}
use Rattle.laws.proofs.AcceptedPaths.{accepted-costs}
use Rattle.laws.specs.Reach.{reach_from}
use Rattle.laws.proofs.Cheapest.{admissible_none}
use Rattle.tree_levels.specs.Levels.{nodes_if, nodes_at, nodes_up_to, start_of}
use Rattle.request.specs.declared.Query.{Query}
use Rattle.request.specs.Query.{search_for, Ready}
use Rattle.tree_reaches.specs.Reaches.{unreachable, code_if, code_at}
use Rattle.tree_rounds.specs.Kept.{kept_by}
use Rattle.tree_vspt.specs.Tree.{codes_from, TreeCodes}
use Rattle.tree_vspt.proofs.Known.{code_is, cost-bound}
use Rattle.tree_vspt.proofs.Sequences.{stops-long}

module _ (L : Layout) (s : List ℕ) (lists : Lists) (q : Query) (cheap : L.most_cost ≤ cost_limit) (ready : Ready L s lists q) where
  abbrev S : Search
  S = search_for L s lists q

  few : length S.sequence ≤ 16
  few = omega (arith, stops-long lists.include q, ready.most)

  costs : (h : Hop) → Memᴰ h S.hops → h.cost ≤ cost_limit
  costs h m = omega (arith, accepted-costs L s ready.profile-right h m)

  source-alone : nodes_at S 0 ≡ S.source ∷ []
  unfolding nodes_at entries_at
  source-alone = ap (λ (b : Bool). nodes_if b S 0) (lt-ltb 0 (length S.sequence) (omega (arith, stops-long lists.include q, ready.some_domain_lem)))

  -- the first of all numbers is the source's
  pub source-number : (codes : List ℕ) → TreeCodes S codes → get_or codes 0 0 ≡ code_at S 0 S.source
  unfolding codes_from nodes_up_to each count_from
  source-number codes is =
      let n = length S.sequence in
      let some : 0 < start_of S (suc n) = omega (arith, ap length source-alone, length-append (nodes_at S 0) (each (nodes_at S) (count_from 1 n))) in
      sym (get_or-take (start_of S (suc n)) codes 0 0 some)
      ∙ ap (λ (l : List ℕ). get_or l 0 0) is
      ∙ ap (λ (l : List ℕ). get_or (map (code_at S 0) l ++ each (λ (j : ℕ). map (code_at S j) (nodes_at S j)) (count_from 1 n)) 0 0) source-alone

  module _ (here : ℕ) (is : here ≡ code_at S 0 S.source) where
    abbrev reach : Bool
    reach = (reach_from S (legs S.sequence) 0 S.source).reachable

    abbrev cost : ℕ
    cost = (reach_from S (legs S.sequence) 0 S.source).cost

    number : here ≡ code_if reach cost
    number = is ∙ code_is S few costs 0 S.source

    reached : (here ≡ unreachable → ⊥) → reach ≡ true
    reached h =
        ⊎_elim (λ (t : reach ≡ true). t) (λ (f : reach ≡ false). absurd (h (number ∙ ap (λ (b : Bool). code_if b cost) f))) (decide reach)

    pub cost-is : (here ≡ unreachable → ⊥) → here ≡ cost
    cost-is h = number ∙ ap (λ (b : Bool). code_if b cost) (reached h)

    pub small : (here ≡ unreachable → ⊥) → here ≤ total_limit
    small h = omega (arith, cost-is h, cost-bound S few costs 0 S.source (reached h))

    unreached : here ≡ unreachable → reach ≡ false
    unreached e =
        ⊎_elim
        (λ (t : reach ≡ true).
        let n = number ∙ ap (λ (b : Bool). code_if b cost) t in
        absurd (omega (arith, cost-bound S few costs 0 S.source t)))
        (λ (f : reach ≡ false). f)
        (decide reach)

    -- no path is admissible exactly where the number fails the test
    pub none_admissible : is_empty (admissible S) ≡ not (kept_by S.limits here)
    unfolding paths
    none_admissible = admissible_none S ∙ ap not (go (eqb here unreachable) refl)
      where
        go : (b : Bool) → eqb here unreachable ≡ b → reach && keeps_bound S.limits cost ≡ not b && keeps_bound S.limits here
        go true t = ap (λ (c : Bool). c && keeps_bound S.limits cost) (unreached (eqb-true here unreachable t))
        go false f =
            let h = eqb-false here unreachable f in
            ap₂ (λ (c : Bool) (n : ℕ). c && keeps_bound S.limits n) (reached h) (sym (cost-is h))

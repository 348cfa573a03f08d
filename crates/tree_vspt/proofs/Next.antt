-- A place that is laid out and has its numbers, as the place before it needs it: its entries lie in both lists, ascend and are at most 16, and a hop's cost can be
-- added to each number. From what was laid out.
use mathlib.Core.Path.{◌≡◌, sym, ap, subst}
use mathlib.Core.List.{List, map, Memᴰ}
use Prim.Native.Nat.{ℕ, suc, ◌-◌, ◌≤◌, ◌<◌}
use native.Mathlib.Omega.{arith}
use lib.ListN.{length, length-map, length-take}
use lib.Seq.{slice}
use Rattle.model.specs.declared.Hop.{Hop}
use Rattle.model.specs.Profile.{Layout, cost_limit}
use Rattle.model.specs.Request.{Search}
use Rattle.laws.specs.Sorted.{Sorted}
use Rattle.tree_lookup.specs.LookUp.{Part}
use Rattle.tree_lookup.proofs.Parts.{part-between}
use Rattle.tree_levels.specs.Levels.{nodes_at, start_of, LaidOut}
use Rattle.tree_levels.proofs.Nodes.{nodes-ascending}
use Rattle.tree_levels.proofs.Blocks.{place-nodes}
use Rattle.tree_reaches.specs.Reaches.{code_at, Small, beside, NextPlace}
use Rattle.tree_vspt.proofs.Filled.{level-long, starts_later}
use Rattle.tree_vspt.proofs.Known.{beside-any, code_small}

module _
    (S : Search) (L : Layout) (s addresses starts firsts lasts : List ℕ) (examined : ℕ) (laid : LaidOut S L s addresses starts firsts lasts examined)
    (i : ℕ) (h : i ≤ length S.sequence)
  where
    order : start_of S i ≤ start_of S (suc i)
    order = omega (arith, level-long S i)

    -- it ends no later than the last
    ends_by : start_of S (suc i) ≤ start_of S (suc (length S.sequence))
    ends_by = starts_later S (suc i) (suc (length S.sequence)) (omega arith)

    inside : start_of S (suc i) ≤ length addresses
    inside = omega (arith, ends_by, length-take (start_of S (suc (length S.sequence))) addresses, ap length laid.addresses_are)

    nodes : slice (start_of S i) (start_of S (suc i)) addresses ≡ nodes_at S i
    nodes = place-nodes S L s addresses starts firsts lasts examined laid i h

    part : Part addresses (start_of S i) (start_of S (suc i) - start_of S i)
    part =
        part-between addresses (start_of S i) (start_of S (suc i)) order inside
        (omega (arith, level-long S i, length-map (nodes_at S i) (code_at S i), laid.few i))
        (subst (Sorted ◌<◌) (sym nodes) (nodes-ascending S i))

    pub next-place-of
        : length S.sequence ≤ 16 → ((x : Hop) → Memᴰ x S.hops → x.cost ≤ cost_limit)
        → (codes : List ℕ) → start_of S (suc i) ≤ length codes → slice (start_of S i) (start_of S (suc i)) codes ≡ map (code_at S i) (nodes_at S i)
        → NextPlace addresses codes (start_of S i) (start_of S (suc i))
    next-place-of few cheap codes in_codes known =
        record {
          order = order;
          part = part;
          in_codes = in_codes;
          small =
              λ v.
              subst Small (λ j. beside (sym nodes j) (sym known j) v)
              (beside-any (code_at S i) Small (λ k. absurd (omega arith)) (λ x. code_small S few cheap i x) (nodes_at S i) v);
        }

-- `path_step::next_hop` meets its contract: the leg and the next place are those of the sequence (`Places`), and the first hop that is taken is the one promised (`Shortest`).
use mathlib.Core.Path.{◌≡◌, refl, sym, subst, subst₂, ◌∙◌}
use Prim.Native.Nat.{ℕ, suc, ◌+◌}
use native.Mathlib.Numerals.{add-one}
use native.Mathlib.Omega.{arith}
use lib.ListN.{get_or}
use lib.Seq.{slice}
use Rattle.model.specs.declared.DomainIndex.{DomainIndex}
use Rattle.profile_hop_range.specs.Ranges.{PairRange, TailRange}
use Rattle.request.specs.Query.{query_domain}
use Rattle.tree_reaches.specs.Reaches.{NextPlace}
use Rattle.path_step.specs.Worked.{layout_in}
use Rattle.path_step.proofs.Places.{leg-range, next_nodes_lem, next_codes_lem, next_place_lem}
use Rattle.path_step.proofs.Shortest.{onward-is}
use Rattle.path_step.proofs.next_hop.Goals as goal

add-two : (n : ℕ) → n + 2 ≡ suc (suc n)
add-two n = omega arith

pub tail_range-range-requires : goal.tail_range-range-requires
tail_range-range-requires c =
    let a = c.args in
    let T = a.tree.now in
    let ways = c.requires.1 in record {
      right_profile = ways.worked.right;
      pair_range = subst
          (λ (d : DomainIndex). PairRange (layout_in T) T.profile.now (query_domain T.query a.i) d.0 (get_or T.levels.now.firsts a.i 0) (get_or T.levels.now.lasts a.i 0))
          (sym c.next_domain-to.ensures)
          (leg-range ways.search T ways.worked a.i c.requires.0);
    }

pub scan-requires : goal.scan-requires
scan-requires c =
    let a = c.args in
    let T = a.tree.now in
    let ways = c.requires.1 in
    let range = c.tail_range-range.ensures in record {
      right_profile = ways.worked.right;
      first_le_last = (range.order, range.within);
      fit = record {
        bandwidth-right = ways.worked.bandwidth-right;
        reached = ways.stands.reached;
        next_place = subst₂ (λ (m n : ℕ). NextPlace T.levels.now.addresses T.reaches.now (get_or T.levels.now.starts m 0) (get_or T.levels.now.starts n 0))
            (sym (add-one a.i)) (sym (add-two a.i))
            (next_place_lem ways.search T ways.worked a.i c.requires.0);
      };
    }

pub returns : goal.returns
returns c =
    let a = c.args in
    let T = a.tree.now in
    let range = c.tail_range-range in
    λ search worked stands.
    onward-is search T worked a.i c.requires.0
    (record {
      asked = T.query.limits.bandwidth;
      here = a.here;
      which = a.which;
      levels = T.levels;
      reaches = T.reaches;
      from = get_or T.levels.now.starts (a.i + 1) 0;
      to = get_or T.levels.now.starts (a.i + 2) 0;
    }) refl
    ((λ j. slice (get_or T.levels.now.starts (add-one a.i j) 0) (get_or T.levels.now.starts (add-two a.i j) 0) T.levels.now.addresses) ∙ next_nodes_lem search T worked a.i c.requires.0)
    ((λ j. slice (get_or T.levels.now.starts (add-one a.i j) 0) (get_or T.levels.now.starts (add-two a.i j) 0) T.reaches.now) ∙ next_codes_lem search T worked a.i c.requires.0)
    a.node.0 stands range.result.first range.result.last c.scan.result
    (subst (λ (d : DomainIndex). TailRange (layout_in T) T.profile.now (query_domain T.query a.i) d.0 a.node.0 range.result.first range.result.last)
    c.next_domain-to.ensures
    range.ensures)
    c.scan.ensures

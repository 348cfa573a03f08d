-- One turn of the pass that notes entry nodes, over the values that the code holds: the record read, the count carried over and the count after it.
use Rattle.std.specs.Prelude.{Err}
use mathlib.Core.Path.{◌≡◌, refl, sym, ap, subst, ◌∙◌}
use mathlib.Core.Bool.{Bool, true, false, not, cond, ◌&&◌, ◌||◌}
use mathlib.Core.List.{List}
use Prim.Native.Nat.{ℕ, ◌+◌, ◌<◌, ◌≤◌}
use native.Mathlib.Omega.{arith}
use borrow.Author.Tests.{eqb-true, eqb-false, not-true, not-false, lt-ltb, le-ltb}
use lib.ListN.{get_or, take}
use lib.Dec.{eqb, ltb}
use Rattle.model.specs.Verdict.{Pass}
use Rattle.model.specs.declared.Hop.{Hop}
use Rattle.model.specs.Lists.{among}
use Rattle.model.specs.Profile.{Layout, domain_count, hop_count, hop_at, hop_misordered, crowded, crowded_verdict}
use Rattle.profile_records.specs.Layout.{HopsWithin}
use Rattle.profile_check.specs.Noting.{Added}
use Rattle.profile_check.proofs.Crowding.{Noted, Passing, crowded-number, noted_more, within-domain, carry, passing_next}

-- two domains are not the same, and they are, as the code tests it
pub unlike : (x y : ℕ) → true ≡ not (eqb x y) → x ≡ y → ⊥
unlike x y e = eqb-false x y (not-true (eqb x y) (sym e))

pub alike : (x y : ℕ) → false ≡ not (eqb x y) → x ≡ y
alike x y e = eqb-true x y (not-false (eqb x y) (sym e))

pub carried-few : (t : Bool) (n m : ℕ) → n ≤ m → cond t n 0 ≤ m
carried-few true n m h = h
carried-few false n m h = omega arith

-- what the code holds in a turn: the record before it in (d, e) and the nodes noted, the record read and the count carried over
pub record Turn (L : Layout) (s : List ℕ) (d e i : ℕ) (noted : List ℕ) (count : ℕ) (x : Hop) (kept : ℕ) : Type 0 where
  pub bytes : (k : ℕ) → get_or s k 0 < 256
  pub within : HopsWithin L s (hop_count s)
  pub ordered : (k : ℕ) → k < hop_count s → hop_misordered L s k ≡ false
  pub here : i < hop_count s
  pub passing : Passing L s d e i noted count
  pub is : x ≡ hop_at L s i
  pub keeps : kept ≡ cond (eqb x.from.0 d && eqb x.to.0 e) count 0

module _ {L : Layout} {s : List ℕ} {d e i : ℕ} {noted : List ℕ} {count : ℕ} {x : Hop} {kept : ℕ} (t : Turn L s d e i noted count x kept) where
  -- within one domain nothing is noted and nothing refused
  pub same-passes : x.from.0 ≡ x.to.0 → crowded_verdict L s i ≡ Pass
  unfolding crowded_verdict
  same-passes q = rw (within-domain L s i (subst (λ (y : Hop). y.from.0 ≡ y.to.0) t.is q)) refl

  pub same_goes_on : x.from.0 ≡ x.to.0 → Passing L s x.from.0 x.to.0 (i + 1) noted kept
  same_goes_on q =
      subst (λ (y : Hop). Passing L s y.from.0 y.to.0 (i + 1) noted kept) (sym t.is)
      (passing_next L s i noted kept (λ apart. absurd (apart (subst (λ (y : Hop). y.from.0 ≡ y.to.0) t.is q))))

  module _ (differ : x.from.0 ≡ x.to.0 → ⊥) (after : ℕ) (number : after ≡ cond (among x.head.0 (take kept noted)) kept (kept + 1)) where
    apart : (hop_at L s i).from.0 ≡ (hop_at L s i).to.0 → ⊥
    apart q = differ (subst (λ (y : Hop). y.from.0 ≡ y.to.0) (sym t.is) q)

    held : Noted L s (hop_at L s i).from.0 (hop_at L s i).to.0 i noted kept
    held =
        subst (Noted L s (hop_at L s i).from.0 (hop_at L s i).to.0 i noted) (sym (t.keeps ∙ ap (λ (y : Hop). cond (eqb y.from.0 d && eqb y.to.0 e) count 0) t.is))
        (carry L s t.bytes t.within t.ordered d e i t.here noted count t.passing apart)

    tested : crowded L s i ≡ ltb 16 after
    tested =
        crowded-number L s i t.here noted kept held apart
        ∙ ap (ltb 16) (sym (number ∙ ap (λ (y : Hop). cond (among y.head.0 (take kept noted)) kept (kept + 1)) t.is))

    pub seventeenth : 16 < after → (place : ℕ) → place ≡ domain_count s + i → crowded_verdict L s i ≡ Err (record { number = 19; place = place })
    unfolding crowded_verdict
    seventeenth more place q = rw (tested, lt-ltb 16 after more, q) refl

    pub few_pass : after ≤ 16 → crowded_verdict L s i ≡ Pass
    unfolding crowded_verdict
    few_pass few = rw (tested, le-ltb 16 after few) refl

    pub few_go_on : after ≤ 16 → (new : List ℕ) → Added noted kept x.head.0 new after → Passing L s x.from.0 x.to.0 (i + 1) new after
    few_go_on few new added =
        subst (λ (y : Hop). Passing L s y.from.0 y.to.0 (i + 1) new after) (sym t.is)
        (passing_next L s i new after
        (λ _.
        noted_more L s i t.here noted kept held new after
        (number ∙ ap (λ (y : Hop). cond (among y.head.0 (take kept noted)) kept (kept + 1)) t.is)
        (subst (λ (v : Hop). (y : ℕ) → among y (take after new) ≡ among y (take kept noted) || eqb y v.head.0) t.is (added.same few))))

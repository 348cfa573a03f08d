-- How far the count of a message's METRICs is, with the bound and the first out of range met so far: what is left makes up the rest.
use Rattle.std.specs.Prelude.{Option, None}
use Rattle.std.specs.Option.{option_or}
use Prim.Native.Nat.{ℕ, ◌+◌, ◌≤◌, ◌<◌}
use native.Mathlib.Omega.{arith}
use mathlib.Core.Path.{◌≡◌, sym, ap, ◌∙◌}
use mathlib.Core.Bool.{Bool, true}
use mathlib.Core.List.{List, [], ◌∷◌}
use lib.ListN.{length}
use Rattle.model.specs.Verdict.{Pass}
use Rattle.model.specs.Along.{first_of}
use Rattle.pcep_model.specs.Objects.{METRIC, is_object, objects_verdict}
use Rattle.pcep_laws.specs.Firsts.{placed, noted}
use Rattle.pcep_laws.specs.Metrics.{metric_places, has_b, is_wrong}
use Rattle.pcep_laws.specs.Left.{metrics_left}
use Rattle.pcep_laws.proofs.Objects.{noted-kept, none-to_come}
use Rattle.pcep_laws.proofs.Metrics.{metrics-end, metric-inside, metric_taken, after-metric, bound-is, wrong-is, metrics-count}
use Rattle.pcep_metrics.specs.declared.MetricScan.{MetricScan}
use Rattle.pcep_metrics.specs.Along.{Passed, AtObject, NextMetric, MetricScanIs}

-- ---- the first METRIC that passes a test, met so far or to come

abbrev pub Met : (ℕ → Bool) → Option ℕ → List ℕ → List ℕ → Type 0
Met test a left whole = option_or a (placed (first_of test left)) ≡ placed (first_of test whole)

met_starts : (test : ℕ → Bool) (left whole : List ℕ) → left ≡ whole → Met test None left whole
met_starts test left whole e = ap (λ (l : List ℕ). placed (first_of test l)) e

met-goes-on
    : (test : ℕ → Bool) (a : Option ℕ) (at : ℕ) (left later whole : List ℕ)
    → 0 < at → left ≡ at ∷ later → Met test a left whole → Met test (noted (test at) a at) later whole
unfolding first_of
met-goes-on test a at left later whole h e m =
    noted-kept a at (first_of test later) h (test at)
    ∙ ap (λ (l : List ℕ). option_or a (placed (first_of test l))) (sym e)
    ∙ m

met_ends : (test : ℕ → Bool) (a : Option ℕ) (left whole : List ℕ) → left ≡ [] → Met test a left whole → a ≡ placed (first_of test whole)
unfolding first_of
met_ends test a left whole e m =
    sym (none-to_come a)
    ∙ ap (λ (l : List ℕ). option_or a (placed (first_of test l))) (sym e)
    ∙ m

module _ (s : List ℕ) where
  pub record Judging (p : Passed s) (at : ℕ) (r : MetricScan) : Type 0 where
    pub left : objects_verdict p.kind s at ≡ Pass
    pub inside : at ≤ length s
    pub start : 4 ≤ at
    pub metric : at < length s → is_object METRIC s at ≡ true
    pub counted : r.count + length (metrics_left s at) ≡ length (metric_places s)
    pub few : r.count ≤ at
    pub bound_met : Met (has_b s) r.bound (metrics_left s at) (metric_places s)
    pub wrong_met : Met (is_wrong s) r.wrong (metrics_left s at) (metric_places s)

  module _ (p : Passed s) where
    pub at_start : AtObject s 4
    at_start = record { passed = p; left = p.right; inside = p.long }

    pub judging_starts : (r : ℕ) → NextMetric s 4 r → Judging p r (record { count = 0; bound = None; wrong = None })
    judging_starts r n =
        let b = n.none_between in
        let k = p.kind in
        let same = sym (b.same k p.right) in
        record {
          left = b.left k p.right;
          inside = b.inside;
          start = b.further;
          metric = n.metric;
          counted = let l = ap length same in omega arith;
          few = omega arith;
          bound_met = met_starts (has_b s) (metrics_left s r) (metric_places s) same;
          wrong_met = met_starts (is_wrong s) (metrics_left s r) (metric_places s) same;
        }

    module _ (at : ℕ) (m : MetricScan) (j : Judging p at m) where
      pub judging_ends : length s ≤ at → MetricScanIs s m
      judging_ends h =
          let none = metrics-end p.kind s at h in
          record {
            count = let e = j.counted in let l = ap length none in let n = metrics-count s in omega arith;
            bound = met_ends (has_b s) m.bound _ (metric_places s) none j.bound_met ∙ ap placed (sym (bound-is s));
            wrong = met_ends (is_wrong s) m.wrong _ (metric_places s) none j.wrong_met ∙ ap placed (sym (wrong-is s));
            most = omega (arith, j.few, j.inside, p.short);
          }

      module _ (h : at < length s) where
        pub whole : at + 12 ≤ length s
        whole = metric-inside p.kind s at h j.left (j.metric h)

        behind_left : objects_verdict p.kind s (at + 12) ≡ Pass
        behind_left = after-metric p.kind s at h j.left (j.metric h)

        pub behind : AtObject s (at + 12)
        behind = record { passed = p; left = behind_left; inside = whole }

        pub judging_goes_on : (r : ℕ) → NextMetric s (at + 12) r → Judging p r (record { count = m.count + 1; bound = noted (has_b s at) m.bound at; wrong = noted (is_wrong s at) m.wrong at })
        judging_goes_on r n =
            let b = n.none_between in
            let k = p.kind in
            let taken = metric_taken k s at h j.left (j.metric h) ∙ ap {B = List ℕ} (λ (l : List ℕ). at ∷ l) (b.same k behind_left) in
            record {
              left = b.left k behind_left;
              inside = b.inside;
              start = omega (arith, b.further, j.start);
              metric = n.metric;
              counted = let e = j.counted in let l = ap length taken in omega arith;
              few = omega (arith, b.further, j.few);
              bound_met = met-goes-on (has_b s) m.bound at _ _ (metric_places s) (omega (arith, j.start)) taken j.bound_met;
              wrong_met = met-goes-on (is_wrong s) m.wrong at _ _ (metric_places s) (omega (arith, j.start)) taken j.wrong_met;
            }

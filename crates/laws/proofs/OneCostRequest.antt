-- An accepted request of whose profile one hop's cost is written anew, in range: it is accepted with the same sequence, and in each round its search is the old one
-- with that cost at that hop. From what stands of the profile.
use mathlib.Core.Path.{◌≡◌, sym, ap, ◌∙◌}
use mathlib.Core.List.{List}
use Prim.Native.Nat.{ℕ, ◌≤◌, ◌<◌}
use Rattle.model.specs.declared.Round.{Round}
use Rattle.model.specs.Profile.{Layout, hop_count, hop_at, hops, profile_verdict}
use Rattle.model.specs.Sequence.{Stop}
use Rattle.model.specs.Request.{Request, layout_for, request_verdict, sequence_of, Accepted, search_in}
use Rattle.laws.proofs.Accepted.{AcceptedProfile, accepted}
use Rattle.laws.proofs.AcceptedRequest.{accepted-profile}
use Rattle.laws.proofs.LaterLegs.{over_hops}
use Rattle.laws.proofs.OneCost.{CostApart, with_cost, same-domain-count, same-domains, one_cost}
use Rattle.laws.proofs.OneCostTree.{at_cost_in}
use Rattle.laws.proofs.OneCostAccepted.{cost-passes}

-- the same request on another profile
abbrev pub on_profile : Request → List ℕ → Request
on_profile r s =
    record {
      profile = s;
      ingress = r.ingress;
      source = r.source;
      destination = r.destination;
      include = r.include;
      exclude = r.exclude;
      limits = r.limits;
    }

-- the request after the edit
abbrev pub edited : Request → ℕ → ℕ → Request
edited r k c = on_profile r (with_cost (layout_for r) r.profile k c)

module _
    (r : Request) (sequence : List Stop) (yes : Accepted r sequence) (k c : ℕ) (recorded : k < hop_count r.profile)
    (room : CostApart (layout_for r)) (in_range_lem : c ≤ (layout_for r).most_cost) (small : c < 4294967296) (same_layout : layout_for (edited r k c) ≡ layout_for r)
  where
    abbrev L : Layout
    L = layout_for r

    passed : AcceptedProfile L r.profile
    passed = accepted L r.profile (accepted-profile r sequence yes)

    same-verdict : profile_verdict (layout_for (edited r k c)) (with_cost L r.profile k c) ≡ profile_verdict L r.profile
    same-verdict =
        ap (λ (M : Layout). profile_verdict M (with_cost L r.profile k c)) same_layout
        ∙ cost-passes L room r.profile (accepted-profile r sequence yes) k c recorded in_range_lem small
        ∙ sym (accepted-profile r sequence yes)

    pub still_accepted : Accepted (edited r k c) sequence
    unfolding sequence_of request_verdict
    still_accepted =
        rw (
          same-verdict,
          same-domain-count L room r.profile passed.sized k c recorded,
          same-domains L room r.profile passed.sized k c recorded,
        )
        yes

    pub changed-search
        : (x : Round) → search_in x (edited r k c) sequence ≡ over_hops (search_in x r sequence) (at_cost_in (hops L r.profile) k (hop_at L r.profile k) c)
    unfolding search_in
    changed-search x =
        rw (same-domains L room r.profile passed.sized k c recorded)
        (ap (over_hops (search_in x r sequence))
        (ap (λ (M : Layout). hops M (with_cost L r.profile k c)) same_layout
        ∙ one_cost L room r.profile passed.sized k c recorded small))

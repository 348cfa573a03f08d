-- One turn of the loops along a sequence: what is written for the domain at a place, how long it is, and what is left to write after it. From the laws of sequences by
-- index and of accepted profiles.
use Rattle.std.specs.Prelude as Std
use Prim.Native.Nat.{ℕ, suc, ◌+◌, ◌-◌, ◌≤◌, ◌<◌}
use native.Mathlib.Numerals.{add-one}
use native.Mathlib.Nat.{zero-add}
use native.Mathlib.Omega.{arith}
use mathlib.Core.Path.{◌≡◌, refl, sym, ap, ap₂, ◌∙◌}
use mathlib.Core.Bool.{Bool}
use mathlib.Core.List.{List, [], ◌++◌}
use mathlib.Core.Option.{Option, some}
use lib.Dec.{leb}
use lib.ListN.{length, get_or, take, drop, length-append, length-drop}
use lib.Seq.{length-take-le}
use borrow.Author.Tests.{leb-false}
use Rattle.model.specs.declared.Domain.{Domain}
use Rattle.model.specs.Lists.{over}
use Rattle.model.specs.Profile.{layout_in, domain_count, domain_start, domain_at, domains}
use Rattle.model.specs.Sequence.{no_domain, domain_of}
use Rattle.model.specs.WrittenList.{pin_if, system_if, system_after, written_pin, written_area, written_stop, written_from}
use Rattle.laws.proofs.Lists.{any_false}
use Rattle.laws.proofs.Ascending.{get_or_mem}
use Rattle.laws.proofs.Accepted.{AcceptedProfile, accepted}
use Rattle.laws.proofs.Records.{length-domains, domain_at_lem}
use Rattle.laws.proofs.Stops.{bytes_before, stops_from, exrs_at, written_at, written-end}
use Rattle.laws.proofs.WrittenSizes.{Together, together, exrs-long}
use Rattle.buffers.specs.Placed.{placed, Put}
use Rattle.buffers.proofs.Places.{nothing_put, placed-append}
use Rattle.list_writer.specs.Writing.{AreaRight, before_of, system_again, stop_bytes, named_size, Fitting}
use Rattle.list_writer.proofs.Stretches.{lent}
use Rattle.list_writer.proofs.WrittenParts.{stop-long}

again_system : (before : Std.Option ℕ) (asn : ℕ) → system_if (system_again before asn) asn ≡ system_after (before_of before) asn
again_system Std.None asn = refl
again_system (Std.Some before) asn = refl

-- what is left to write from place i on, where `before` is the AS of the domain before it
abbrev pub left : List ℕ → List ℕ → List ℕ → List ℕ → List ℕ → List ℕ → ℕ → Std.Option ℕ → List ℕ
left profile indexes marks nodes counts exrs i before = written_from (domains profile) (before_of before) (stops_from (domains profile) indexes marks nodes counts exrs i)

module _ {profile indexes marks nodes counts exrs : List ℕ} (w : Fitting profile indexes marks nodes counts exrs) where
  facts : AcceptedProfile (layout_in profile) profile
  facts = accepted (layout_in profile) profile w.accepted

  pub fit : Together indexes marks nodes counts exrs
  fit = together indexes marks nodes counts exrs w.fit

  module _ (i : ℕ) (h : i < length indexes) where
    below-count : get_or indexes i 0 < domain_count profile
    below-count =
        let inside : get_or indexes i 0 < length (domains profile) = leb-false _ _ (any_false (λ (d : ℕ). leb (length (domains profile)) d) w.in_profile (get_or_mem indexes i 0 h)) in
        omega (arith, length-domains profile)

    -- the domain's record lies in the profile, and its area is right
    pub inside : domain_start (get_or indexes i 0) + 20 ≤ length profile
    inside = omega (arith, below-count, facts.sized)

    pub area-right : AreaRight (domain_at profile (get_or indexes i 0))
    unfolding domain_at
    area-right =
        record {
          fits = (facts.domain (get_or indexes i 0) below-count).area_fits;
          whole = length-take-le 13 (drop (domain_start (get_or indexes i 0) + 6) profile) (simp length-drop (omega (arith, inside)));
        }

    named : domain_of (domains profile) (get_or indexes i 0) ≡ domain_at profile (get_or indexes i 0)
    named = domain_at_lem profile (get_or indexes i 0) no_domain below-count

    module _ (before : Std.Option ℕ) (pin : Option ℕ) (again : Bool) (d : Domain) (e : d ≡ domain_at profile (get_or indexes i 0)) (f : again ≡ system_again before d.asn) (g : pin ≡ pin_if (get_or marks i 0) (get_or nodes i 0)) where
      abbrev own : List ℕ
      own = exrs_at (domains profile) indexes marks nodes counts exrs i

      abbrev rest : List ℕ
      rest = left profile indexes marks nodes counts exrs (i + 1) (Std.Some d.asn)

      first_left : left profile indexes marks nodes counts exrs i before ≡ stop_bytes pin own again d ++ rest
      first_left =
          rw add-one
          (written_at (domains profile) indexes marks nodes counts exrs i h fit.as_many_marks fit.as_many_nodes fit.as_many_counts (before_of before)
          ∙ ap
          (λ (p : Option ℕ).
          written_stop (before_of before) p own (domain_of (domains profile) (get_or indexes i 0))
          ++ written_from (domains profile) (some (domain_of (domains profile) (get_or indexes i 0)).asn) (stops_from (domains profile) indexes marks nodes counts exrs (suc i)))
          (sym g)
          ∙ ap
          (λ (x : Domain).
          written_stop (before_of before) pin own x
          ++ written_from (domains profile) (some x.asn) (stops_from (domains profile) indexes marks nodes counts exrs (suc i)))
          (named ∙ sym e)
          ∙ ap
          (λ (s : List ℕ). written_pin pin ++ (own ++ (s ++ written_area d.kind d)) ++ left profile indexes marks nodes counts exrs (suc i) (Std.Some d.asn))
          (sym (ap (λ (b : Bool). system_if b d.asn) f ∙ again_system before d.asn)))

      -- how long it is
      pub left_long : length (left profile indexes marks nodes counts exrs i before)
          ≡ named_size pin again d + get_or counts i 0 + length rest
      left_long =
          let c = fit.as_many_counts in
          omega
          (arith, ap length first_left, length-append (stop_bytes pin own again d) rest, stop-long pin own again d, exrs-long counts exrs fit.all_bytes i (omega arith) (domains profile) indexes marks nodes)

      -- the domain's bytes, with the part of the EXRS' bytes that the code lends, have room where all that is left has; where they are put, the rest is left
      module _ (from to : ℕ) (u : from ≡ bytes_before counts i) (t : to ≡ from + get_or counts i 0) where
        abbrev bytes : List ℕ
        bytes = stop_bytes pin (take (to - from) (drop from exrs)) again d

        lent_left : left profile indexes marks nodes counts exrs i before ≡ bytes ++ rest
        lent_left = first_left ∙ ap (λ (x : List ℕ). stop_bytes pin x again d ++ rest) (lent counts exrs i from to u t)

        pub turn_room : (at : ℕ) (out : List ℕ) → at + length (left profile indexes marks nodes counts exrs i before) ≤ length out → at + length bytes ≤ length out
        turn_room at out k = omega (arith, ap length lent_left, length-append bytes rest)

        pub turn : (at next : ℕ) (out new : List ℕ) → at ≤ length out → Put at bytes out new next
            → placed next rest new ≡ placed at (left profile indexes marks nodes counts exrs i before) out
        turn at next out new k p =
            ap₂ (λ (n : ℕ) (s : List ℕ). placed n rest s) p.next p.holds
            ∙ placed-append out bytes at k rest
            ∙ ap (λ (s : List ℕ). placed at s out) (sym lent_left)

        pub turn_long : (at next : ℕ) (out new : List ℕ) → Put at bytes out new next
            → next + length rest ≡ at + length (left profile indexes marks nodes counts exrs i before)
        turn_long at next out new p = omega (arith, p.next, ap length lent_left, length-append bytes rest)

pub nothing_left : (profile indexes marks nodes counts exrs : List ℕ) (i : ℕ) (before : Std.Option ℕ) → length indexes ≤ i → left profile indexes marks nodes counts exrs i before ≡ []
nothing_left profile indexes marks nodes counts exrs i before h = written-end (domains profile) indexes marks nodes counts exrs i (before_of before) h

-- from the start on: over the start
pub from_start : (run old : List ℕ) → placed 0 run old ≡ over run old
unfolding over
from_start run old = ap (λ (n : ℕ). run ++ drop n old) (zero-add (length run))

-- nothing put changes nothing
pub none_placed : (run out : List ℕ) (at : ℕ) → run ≡ [] → placed at run out ≡ out
none_placed run out at e = ap (λ (s : List ℕ). placed at s out) e ∙ sym (nothing_put out at).holds

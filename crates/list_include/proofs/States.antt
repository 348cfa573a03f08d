-- The state of a reading: what adding a domain makes of it, what a search of its domains says, and what naming a domain does by what was found.
use mathlib.Core.Path.{◌≡◌, refl, sym, ap, ap₂, subst, ◌∙◌}
use mathlib.Core.Logic.{⊎_elim}
use mathlib.Core.Bool.{Bool, true, false, ◌||◌}
use mathlib.Core.List.{List, [], ◌∷◌, ◌++◌, append-nil, map}
use mathlib.Core.Option as Math
use Rattle.std.specs.Prelude.{Option, None, Some, is_some, Ok, Err}
use Prim.Native.Nat.{ℕ, zero, suc, ◌+◌, ◌-◌, ◌≤◌, ◌<◌}
use native.Mathlib.Nat.{zero-add, eq-or-lt_of_le}
use native.Mathlib.Numerals.{add-one}
use native.Mathlib.Omega.{arith}
use lib.ListN.{length, take, set, length-set, length-map, get_or-map}
use lib.Seq.{get_or-set_same, get_or-set_other, length-take-le}
use Rattle.std.proofs.lemmas.List.{get_or-take}
use Rattle.std.proofs.lemmas.Grind.{same_number_lists}
use Rattle.std.specs.List.{list_any}
use lib.Dec.{eqb}
use Rattle.model.specs.declared.DomainIndex.{DomainIndex}
use Rattle.model.specs.declared.NamedStop.{NamedStop}
use Rattle.model.specs.declared.NodeAddress.{NodeAddress}
use Rattle.model.specs.Lists.{count_from, among}
use Rattle.model.specs.Sequence as M
use Rattle.laws.proofs.Lists.{map_agree, map-append, count_from_mem}
use Rattle.model.specs.Path.{no_stop}
use Rattle.laws.proofs.Stops.{stops-length, stop_at_lem}
use borrow.Author.Tests.{eq-eqb, ne_eqb, le-leb, lt-leb}
use Rattle.model.specs.declared.Refusal.{Refusal}
use Rattle.laws.specs.Exrs.{exrs_in, waiting_in, Stretch}
use Rattle.laws.specs.Stops.{stops_of, pin_as, stretch_start, stop_at, domain_in, named_in}
use Rattle.laws.proofs.Waiting.{nothing-waits, exrs-waiting, empty_stretch}
use Rattle.list_include.specs.declared.state.State.{State}
use Rattle.list_include.specs.NamedDomain.{found_of}
use Rattle.list_include.specs.Reading.{left_by, left_or, state_stop, state_stops, since, state_waits, state_of, SoundState, Placed, Standing, StateIs, Past, with_waiting, ReadAs, ReadStepIs, name_found}
use Rattle.list_include.proofs.Hits.{count_snoc}

pub length-stops : (list : List ℕ) (st : State) → length (state_stops list st) ≡ st.count
length-stops list st = stops-length list st.stops st.count

-- ---- adding a domain, named at an offset

module _ (st : State) (at : ℕ) (d : DomainIndex) (sound : SoundState st) (room : st.count < 16) where
  abbrev new : NamedStop
  new = record { domain = d; pin = st.node; named = at }

  abbrev pub longer : State
  longer = record { asn = st.asn; count = st.count + 1; stops = set st.stops st.count new; node = None; waiting = None }

  there : stop_at longer.stops st.count ≡ new
  there = get_or-set_same st.stops st.count new _ (omega (arith, sound.stops-long))

  old : (i : ℕ) → i < st.count → stop_at longer.stops i ≡ stop_at st.stops i
  old i h = get_or-set_other st.stops st.count i new _ (λ q. omega arith)

  old_named : (i : ℕ) → i < st.count → named_in longer.stops i ≡ named_in st.stops i
  old_named i h = ap (λ (x : NamedStop). x.named) (old i h)

  at_named : named_in longer.stops st.count ≡ at
  at_named = ap (λ (x : NamedStop). x.named) there

  -- where the EXRS of a domain start to stand
  old_start : (i : ℕ) → i ≤ st.count → stretch_start longer.stops i ≡ stretch_start st.stops i
  old_start zero h = refl
  old_start (suc i) h = old_named i (omega arith)

  new_start : stretch_start longer.stops st.count ≡ since st
  new_start = old_start st.count (omega arith) ∙ last-start st.count sound.some_domain_lem
    where
      last-start : (n : ℕ) → 1 ≤ n → stretch_start st.stops n ≡ named_in st.stops (n - 1)
      last-start zero h = absurd (omega arith)
      last-start (suc n) h = let e : n ≡ suc n - 1 = omega arith in ap (named_in st.stops) e

  since_new : since longer ≡ at
  since_new = let e : st.count + 1 - 1 ≡ st.count = omega arith in ap (named_in longer.stops) e ∙ at_named

  module _ (list : List ℕ) (standing : Standing list at st) where
    abbrev waits : List M.Waiting
    waits = state_waits list at st

    older : (i : ℕ) → i < st.count → state_stop list longer i ≡ state_stop list st i
    older i h =
        λ k. record {
          domain = (old i h k).domain.0;
          pin = pin_as (old i h k).pin;
          exrs = exrs_in list (old_start i (omega arith) k) (old i h k).named;
        }

    newest : state_stop list longer st.count ≡ M.stop_with d.0 waits
    newest =
        let p = ap (λ (x : NamedStop). pin_as x.pin) there ∙ standing.pin_is in
        let x = ap₂ (exrs_in list) new_start at_named ∙ sym (exrs-waiting list (since st) at) in
        λ k. M.stop (there k).domain.0 (p k) (x k)

    sequence : state_stops list longer ≡ state_stops list st ++ (M.stop_with d.0 waits ∷ [])
    unfolding stops_of
    sequence =
        ap (λ (c : ℕ). map (state_stop list longer) (count_from 0 c)) (add-one st.count)
        ∙ ap (map (state_stop list longer)) (count_snoc 0 st.count)
        ∙ map-append (state_stop list longer) (count_from 0 st.count) ((0 + st.count) ∷ [])
        ∙ ap₂ {C = List M.Stop} (λ (a b : List M.Stop). a ++ b)
        (map_agree (state_stop list longer) (state_stop list st) (count_from 0 st.count) (λ i h. older i (omega (arith, (count_from_mem 0 st.count h).1))))
        (ap {B = List M.Stop} (λ (x : M.Stop). x ∷ []) (ap (state_stop list longer) (zero-add st.count) ∙ newest))

    here : domain_in longer.stops (longer.count - 1) ≡ d.0
    here = ap (domain_in longer.stops) (omega arith) ∙ ap (λ (x : NamedStop). x.domain.0) there

    -- by the last domain, or one before it
    placed_new : Placed list longer
    placed_new i h =
        let P : ℕ → Type 0 = λ n. Stretch list (stretch_start longer.stops n) (named_in longer.stops n) in
        ⊎_elim
        (λ (q : i ≡ st.count). subst P (sym q) (rw (new_start, at_named) standing.behind))
        (λ (l : i < st.count). rw (old_start i (omega arith), old_named i l) (standing.placed i l))
        (eq-or-lt_of_le (omega arith))

    none_waits : state_waits list at longer ≡ []
    none_waits = ap (λ (o : ℕ). waiting_in list o at) since_new ∙ nothing-waits list at

    pub added_state : StateIs list at longer (M.added (state_of list at st) d.0)
    added_state =
        record {
          means = λ k. record { asn = st.asn; here = here k; sequence = sequence k; waiting = none_waits k };
          sound = record { some_domain_lem = omega arith; most = omega arith; stops-long = length-set st.stops st.count new ∙ sound.stops-long };
          standing =
              record {
                placed = placed_new;
                behind = subst (λ (o : ℕ). Stretch list o at) (sym since_new) (empty_stretch list at standing.behind.inside);
                pin_is = ap M.pin_of (sym none_waits);
                left_is = ap left_by (sym none_waits);
              };
        }

-- ---- a search of the domains so far

sought : (d : ℕ) (ss : List NamedStop) → list_any (λ (x : NamedStop). eqb d x.domain.0) ss ≡ list_any (eqb d) (map (λ (x : NamedStop). x.domain.0) ss)
sought d [] = refl
sought d (x ∷ ss) = ap (λ (b : Bool). eqb d x.domain.0 || b) (sought d ss)

module _ (list : List ℕ) (st : State) (sound : SoundState st) where
  numbers : List ℕ
  numbers = map (λ (x : NamedStop). x.domain.0) (take st.count st.stops)

  sequence-domains : numbers ≡ M.domains_of (state_stops list st)
  unfolding numbers
  sequence-domains =
      let long : length numbers ≡ st.count = length-map (take st.count st.stops) (λ (x : NamedStop). x.domain.0) ∙ length-take-le st.count st.stops (omega (arith, sound.stops-long, sound.most)) in
      same_number_lists numbers (M.domains_of (state_stops list st))
      (long ∙ sym (length-map (state_stops list st) (λ (p : M.Stop). p.domain) ∙ length-stops list st))
      (λ k h.
      let below : k < st.count = omega (arith, long) in
      get_or-map (λ (x : NamedStop). x.domain.0) (take st.count st.stops) k (record { domain = record { 0 = 0 }; pin = None; named = 0 })
      ∙ ap (λ (x : NamedStop). x.domain.0) (get_or-take st.count st.stops k (record { domain = record { 0 = 0 }; pin = None; named = 0 }) below)
      ∙ sym (get_or-map (λ (p : M.Stop). p.domain) (state_stops list st) k no_stop ∙ ap (λ (p : M.Stop). p.domain) (stop_at_lem list st.stops st.count k below)))

  pub held : (d : ℕ) → list_any (λ (x : NamedStop). eqb d x.domain.0) (take st.count st.stops) ≡ among d (M.domains_of (state_stops list st))
  unfolding among numbers
  held d = sought d (take st.count st.stops) ∙ ap (list_any (eqb d)) sequence-domains

-- ---- naming a domain by what was found

pub named-found : (at : ℕ) (st : M.State) (ds : List ℕ) → M.name at st ds ≡ name_found at st (found_of ds)
unfolding M.name
named-found at st [] = refl
named-found at st (d ∷ []) = refl
named-found at st (d ∷ e ∷ rest) = refl

-- ---- steps

-- a refused step
pub step-refused : {A : Type 0} (Holds : State → Type 0) (read : State → A) (x : Refusal) (m : M.Reading A) → m ≡ M.refused x → ReadAs Holds read (Err x) m
step-refused Holds read x m q = record { means = sym q; sound = λ st p. absurd (cc) }

-- a step that passes
pub step-passed : {A : Type 0} (Holds : State → Type 0) (read : State → A) (st : State) (m : M.Reading A) → SoundState st → Holds st → m ≡ M.good (read st)
    → ReadAs Holds read (Ok st) m
step-passed Holds read st m s h q =
    record {
      means = sym q;
      sound = λ x p. let same : st ≡ x = cc in subst (λ (y : State). SoundState y × Holds y) same (s, h);
    }

pub stepped-on
    : (list : List ℕ) (at : ℕ) (st : State) (next : M.State) (m : M.Reading M.State) → StateIs list at st next → m ≡ M.good next
    → ReadStepIs list at (Ok st) m
stepped-on list at st next m s q = step-passed (Standing list at) (state_of list at) st m s.sound s.standing (q ∙ sym (ap M.good s.means))

module _ (at : ℕ) (st : M.State) (d : ℕ) where
  pub enter_here : d ≡ st.here → M.enter at st d ≡ M.good st
  unfolding M.enter
  enter_here e = rw (eq-eqb d st.here e) refl

  module _ (away : d ≡ st.here → ⊥) where
    pub enter-back : among d (M.domains_of st.sequence) ≡ true → M.enter at st d ≡ M.refuse 30 at
    unfolding M.enter
    enter-back e = rw (ne_eqb d st.here away, e) refl

    module _ (new : among d (M.domains_of st.sequence) ≡ false) where
      pub enter-full : 16 ≤ length st.sequence → M.enter at st d ≡ M.refuse 31 at
      unfolding M.enter
      enter-full h = rw (ne_eqb d st.here away, new, le-leb 16 (length st.sequence) h) refl

      pub enter_new : length st.sequence < 16 → M.enter at st d ≡ M.good (M.added st d)
      unfolding M.enter
      enter_new h = rw (ne_eqb d st.here away, new, lt-leb 16 (length st.sequence) h) refl

-- the same sequence is as sound with other things beside it
pub still-sound : (st st' : State) → st.count ≡ st'.count → st.stops ≡ st'.stops → SoundState st → SoundState st'
still-sound st st' c d sound =
    record {
      some_domain_lem = subst (λ (k : ℕ). 1 ≤ k) c sound.some_domain_lem;
      most = subst (λ (k : ℕ). k ≤ 16) c sound.most;
      stops-long = ap length (sym d) ∙ sound.stops-long;
    }

-- ---- something more waits, and the reading goes on past it

left_snoc : (w : List M.Waiting) (at : ℕ) (what : M.Waits) → left_or (left_by w) (M.left_over what) at ≡ left_by (w ++ (M.waiting_for at what ∷ []))
left_snoc [] at what = refl
left_snoc (x ∷ w) at what = refl

module _ (list : List ℕ) (at next : ℕ) (st : State) (what : M.Waits) (sound : SoundState st) (standing : Standing list at st) (past : Past list at next (M.waiting_for at what ∷ []) st)
    (node : Option NodeAddress) (waiting : Option Refusal)
    (pinned : pin_as node ≡ M.pin_of (state_waits list at st ++ (M.waiting_for at what ∷ [])))
    (left : waiting ≡ left_or st.waiting (M.left_over what) at) where
  pub waits_more : StateIs list next (with_waiting st node waiting) (M.waits_too at (state_of list at st) what)
  unfolding stops_of
  waits_more =
      record {
        means = λ k. record { asn = st.asn; here = domain_in st.stops (st.count - 1); sequence = state_stops list st; waiting = past.waits k };
        sound = still-sound st _ refl refl sound;
        standing =
            record {
              placed = standing.placed;
              behind = past.behind;
              pin_is = pinned ∙ ap M.pin_of (sym past.waits);
              left_is =
                  left
                  ∙ ap (λ (o : Option Refusal). left_or o (M.left_over what) at) standing.left_is
                  ∙ left_snoc (state_waits list at st) at what
                  ∙ ap left_by (sym past.waits);
            };
      }

-- no entry constraint waits
pub none_waiting : (pin : Option NodeAddress) (p : Math.Option ℕ) → pin_as pin ≡ p → is_some pin ≡ false → p ≡ Math.none
none_waiting None p e f = sym e
none_waiting (Some node) p e f = absurd (cc)

pub pin-last : (w : List M.Waiting) (at node : ℕ) → M.pin_of w ≡ Math.none → M.pin_of (w ++ (M.waiting_for at (M.entry node) ∷ [])) ≡ Math.some node
pin-last [] at node e = refl
pin-last (x ∷ w) at node e = go x.what e (pin-last w at node)
  where
    go : (what : M.Waits) → M.node_or what (M.pin_of w) ≡ Math.none → (M.pin_of w ≡ Math.none → M.pin_of (w ++ (M.waiting_for at (M.entry node) ∷ [])) ≡ Math.some node)
        → M.node_or what (M.pin_of (w ++ (M.waiting_for at (M.entry node) ∷ []))) ≡ Math.some node
    go (M.entry n) e later = let z : ◌≡◌ {A = ℕ} 0 1 = cc in absurd (omega arith)
    go (M.exclusions b) e later = later e

pub pin-kept : (w : List M.Waiting) (at : ℕ) (bytes : List ℕ) → M.pin_of (w ++ (M.waiting_for at (M.exclusions bytes) ∷ [])) ≡ M.pin_of w
pin-kept [] at bytes = refl
pin-kept (x ∷ w) at bytes = ap (M.node_or x.what) (pin-kept w at bytes)

-- ---- and past a subobject with which nothing more waits
pub goes_past : (list : List ℕ) (at next : ℕ) (st : State) (m : M.State) → StateIs list at st m → Past list at next [] st → StateIs list next st m
goes_past list at next st m is past =
    let same : state_waits list next st ≡ state_waits list at st = past.waits ∙ append-nil (state_waits list at st) in
    record {
      means = (λ k. record { asn = st.asn; here = domain_in st.stops (st.count - 1); sequence = state_stops list st; waiting = same k }) ∙ is.means;
      sound = is.sound;
      standing =
          record {
            placed = is.standing.placed;
            behind = past.behind;
            pin_is = is.standing.pin_is ∙ ap M.pin_of (sym same);
            left_is = is.standing.left_is ∙ ap left_by (sym same);
          };
    }

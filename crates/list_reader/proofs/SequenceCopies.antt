-- A state's sequence copied to the lent buffers, part by part: one turn writes one part of the stop at hand, and its EXRS behind those before. Over what the part is.
use mathlib.Core.Path.{◌≡◌, refl, sym, ap, ap₂, subst, ◌∙◌}
use mathlib.Core.Bool.{Bool}
use mathlib.Core.List.{List, ◌++◌, map}
use mir.Val.{bool_byte}
use Rattle.std.specs.Prelude.{Option, None, Some, is_some, unwrap_or}
use Rattle.model.specs.declared.NodeAddress.{NodeAddress}
use Prim.Native.Nat.{ℕ, zero, suc, ◌+◌, ◌-◌, ◌≤◌, ◌<◌}
use native.Mathlib.Nat.{zero-add}
use native.Mathlib.Numerals.{add-one}
use native.Mathlib.Omega.{arith}
use lib.ListN.{length, get_or, drop, set, length-map, length-append, get_or-map}
use lib.Seq.{take_all}
use Rattle.model.specs.Lists.{over}
use Rattle.model.specs.Sequence.{Stop}
use Rattle.model.specs.Calls.{all_exrs, pin_mark, pin_node}
use Rattle.model.specs.Path.{no_stop}
use Rattle.laws.specs.Exrs.{exrs_in, Stretch}
use Rattle.laws.specs.Stops.{pin_as, named_in, stretch_start}
use Rattle.laws.proofs.Stops.{stop_at_lem}
use Rattle.laws.proofs.Waiting.{empty_stretch, stretch_join, exrs_join}
use Rattle.laws.proofs.ExrsSizes.{no_exrs, exrs_before, before_none, before_next, before-few}
use Rattle.list_include.specs.declared.state.State.{State}
use Rattle.list_include.specs.Reading.{state_stop, state_stops, Placed}
use Rattle.list_include.proofs.States.{length-stops}
use Rattle.buffers.specs.Placed.{Put}
use Rattle.buffers.proofs.Places.{nothing_put}
use Rattle.buffers.proofs.Copies.{Copied, copied_more}

-- what goes into the buffers of each stop
abbrev pub domain : Stop → ℕ
domain p = p.domain

abbrev pub mark : Stop → ℕ
mark p = pin_mark p.pin

abbrev pub node : Stop → ℕ
node p = pin_node p.pin

abbrev pub size : Stop → ℕ
size p = length p.exrs

module _ (list : List ℕ) (st : State) where
  stop-there : (i : ℕ) → i < st.count → get_or (state_stops list st) i no_stop ≡ state_stop list st i
  stop-there = stop_at_lem list st.stops st.count

  -- ---- a number of each stop

  module _ (f : Stop → ℕ) where
    abbrev pub part : List ℕ
    part = map f (state_stops list st)

    part_length : length part ≡ st.count
    part_length = length-map (state_stops list st) f ∙ length-stops list st

    part_at : (i : ℕ) → i < st.count → 0 ≡ f no_stop → f (state_stop list st i) ≡ get_or part i 0
    part_at i h z = sym (ap (get_or part i) z ∙ get_or-map f (state_stops list st) i no_stop ∙ ap f (stop-there i h))

    module _ (old now : List ℕ) (i : ℕ) (c : Copied part old now i) (room : st.count ≤ length old) where
      -- the part of stop i goes to place i
      pub part-more : (x : ℕ) → i < st.count → 0 ≡ f no_stop → x ≡ f (state_stop list st i) → Copied part old (set now i x) (i + 1)
      part-more x h z e =
          subst (λ (y : ℕ). Copied part old (set now i y) (i + 1)) (sym (e ∙ part_at i h z)) (copied_more part old now i c (omega (arith, part_length)) (omega arith))

      pub part-whole : i ≡ st.count → now ≡ over part old
      part-whole e = c ∙ ap (λ (l : List ℕ). over l old) (take_all i part (omega (arith, part_length)))

  -- ---- the EXRS of each stop

  -- those of the stops before place i
  abbrev pub passed : ℕ → List ℕ
  passed i = exrs_before (state_stops list st) i

  pub all_passed : (i : ℕ) → i ≡ st.count → passed i ≡ all_exrs (state_stops list st)
  all_passed i e = ap all_exrs (take_all i (state_stops list st) (omega (arith, length-stops list st)))

  -- where the next ones start to stand
  pub start_next : (i : ℕ) → named_in st.stops i ≡ stretch_start st.stops (i + 1)
  start_next i = ap (stretch_start st.stops) (sym (add-one i))

  -- those of stop i stand from an offset up to the subobject that named its domain
  module _ (i : ℕ) (h : i < st.count) (from : ℕ) (e : from ≡ stretch_start st.stops i) where
    abbrev to : ℕ
    to = named_in st.stops i

    pub stretch-there : Placed list st → Stretch list from to
    stretch-there placed = subst (λ (n : ℕ). Stretch list n to) (sym e) (placed i h)

    pub passed_next : passed (i + 1) ≡ passed i ++ exrs_in list from to
    passed_next =
        ap passed (add-one i)
        ∙ before_next (state_stops list st) i (omega (arith, length-stops list st))
        ∙ ap {B = List ℕ} (λ (p : Stop). passed i ++ p.exrs) (stop-there i h)
        ∙ ap {B = List ℕ} (λ (n : ℕ). passed i ++ exrs_in list n to) (sym e)

    pub size_next : length (passed i) + length (exrs_in list from to) ≡ length (passed (i + 1))
    size_next = sym (ap length passed_next ∙ length-append (passed i) (exrs_in list from to))

    pub size_fits : length (passed i) + length (exrs_in list from to) ≤ length (all_exrs (state_stops list st))
    size_fits = omega (arith, size_next, before-few (state_stops list st) (i + 1))

  -- those of all stops stand in one stretch: one stop's behind the other's
  module _ (placed : Placed list st) where
    abbrev Together : ℕ → Type 0
    Together i = Stretch list 0 (stretch_start st.stops i) × (passed i ≡ exrs_in list 0 (stretch_start st.stops i))

    together : (i : ℕ) → i ≤ st.count → Together i
    together zero h = (empty_stretch list 0 (omega arith), before_none (state_stops list st) ∙ sym (no_exrs list 0 0 (omega arith)))
    together (suc i) h =
        let so_far = together i (omega arith) in
        let start = stretch_start st.stops i in
        let own = placed i (omega arith) in (
          stretch_join list 0 start (named_in st.stops i) so_far.0 own,
          before_next (state_stops list st) i (omega (arith, length-stops list st))
              ∙ ap₂ {C = List ℕ} (λ (x y : List ℕ). x ++ y) so_far.1 (ap (λ (p : Stop). p.exrs) (stop-there i (omega arith)))
              ∙ sym (exrs_join list 0 start (named_in st.stops i) so_far.0 own),
        )

    pub all_together : (last : ℕ) → last ≡ stretch_start st.stops st.count → Stretch list 0 last × (exrs_in list 0 last ≡ all_exrs (state_stops list st))
    all_together last e =
        let all = together st.count (omega arith) in
        (subst (Stretch list 0) (sym e) all.0, ap (exrs_in list 0) e ∙ sym all.1 ∙ all_passed st.count refl)

  pub last_start : (n : ℕ) → 1 ≤ n → named_in st.stops (n - 1) ≡ stretch_start st.stops n
  last_start zero h = absurd (omega arith)
  last_start (suc n) h = let e : suc n - 1 ≡ n = omega arith in ap (named_in st.stops) e

  pub none_put : (out : List ℕ) → Put 0 (passed 0) out out 0
  none_put out = subst (λ (l : List ℕ). Put 0 l out out 0) (sym (before_none (state_stops list st))) (nothing_put out 0)

-- put from the start on: over the start
pub put_over : {bytes old new : List ℕ} {after : ℕ} → Put 0 bytes old new after → new ≡ over bytes old
unfolding over
put_over {bytes} {old} p = p.holds ∙ ap (λ (n : ℕ). bytes ++ drop n old) (zero-add (length bytes))

-- the mark and the node that are written of an entry constraint
pub marked : (pin : Option NodeAddress) (some : Bool) → some ≡ is_some pin → bool_byte some ≡ pin_mark (pin_as pin)
marked None some e = ap bool_byte e
marked (Some node) some e = ap bool_byte e

pub noded : (pin : Option NodeAddress) (node : NodeAddress) → node ≡ unwrap_or pin (record { 0 = 0 }) → node.0 ≡ pin_node (pin_as pin)
noded None node e = ap (λ (n : NodeAddress). n.0) e
noded (Some other) node e = ap (λ (n : NodeAddress). n.0) e

-- A loop along a list, as a step of a walk by hand: a turn at a place before the end goes on at a later one, and the turn at the end leaves the loop. By the logic's rule for loops, over what is left up to the end.
use mathlib.Core.Path.{◌≡◌, sym, subst}
use mathlib.Core.Logic.{⊎_elim}
use mathlib.Core.List.{List}
use Prim.Native.Nat.{ℕ, ◌-◌, ◌<◌, ◌≤◌}
use native.Mathlib.Nat.{eq-or-lt_of_le}
use native.Mathlib.Omega.{arith}
use lib.WfN.{lt-wf_rel}
use seplogic.Ra.Ura.{Ura}
use mir.Syntax.{Body, loop}
use base.Logic.{SProp, ent}
use prog.Wp.{Env, Out, Tables, after_turn}
use types.Logic.{Logic}
use types.Kit.{Item, Sq, runs, any_q, ⋆, ◌∵◌, !, qed}
use types.Run.{Below, again, loops}

module _ {M : Type 1} {𝓤 : Ura M} (𝓛 : Logic 𝓤) (𝓣 : Tables 𝓤 𝓛.H) (n : ℕ) (At : ℕ → List (Item 𝓤)) (Left : Out → SProp 𝓤) {E : Env 𝓤 𝓛.H} {body : Body}
    (more : (i : ℕ) (X : SProp 𝓤) → i < n → ((j : ℕ) → i < j → j ≤ n → ent 𝓤 (⋆ 𝓛 (At j)) X) → Sq 𝓛 (At i) (runs 𝓣.C 𝓣.Λ E body (any_q (after_turn 𝓤 𝓛.H X Left))))
    (ends : (X : SProp 𝓤) → Sq 𝓛 (At n) (runs 𝓣.C 𝓣.Λ E body (any_q (after_turn 𝓤 𝓛.H X Left)))) where
  -- the invariant where r is left up to the end
  open 𝓛 use {H}

  abbrev Inv : ℕ → List (Item 𝓤)
  Inv r = At (n - r)

  abbrev Turn : ℕ → ℕ → Type 1
  Turn r i = Sq 𝓛 (At i) (runs 𝓣.C 𝓣.Λ E body (any_q (after_turn 𝓤 H (Below 𝓛 ◌<◌ Inv r) Left)))

  turn : (r : ℕ) → Turn r (n - r)
  turn r =
      ⊎_elim (λ (e : n - r ≡ n). subst (Turn r) (sym e) (ends (Below 𝓛 ◌<◌ Inv r)))
      (λ (l : n - r < n). more (n - r) (Below 𝓛 ◌<◌ Inv r) l (λ j further inside. subst (λ (i : ℕ). ent 𝓤 (⋆ 𝓛 (At i)) (Below 𝓛 ◌<◌ Inv r)) (there j inside) (qed 𝓛 (Inv (n - j)) ∵ again ! ◌<◌ Inv r (n - j) (less j further inside))))
      (eq-or-lt_of_le (omega arith))
    where
      there : (j : ℕ) → j ≤ n → n - (n - j) ≡ j
      there j h = omega arith

      less : (j : ℕ) → n - r < j → j ≤ n → n - j < r
      less j h h' = omega arith

  pub goes_along : Sq 𝓛 (At 0) (runs 𝓣.C 𝓣.Λ E (loop body) (any_q Left))
  goes_along =
      let all_left : n - n ≡ 0 = omega arith in
      subst (λ (i : ℕ). Sq 𝓛 (At i) (runs 𝓣.C 𝓣.Λ E (loop body) (any_q Left))) all_left (loops ! 𝓣 ◌<◌ lt-wf_rel.wf Inv turn n)

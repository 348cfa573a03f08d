-- One subobject read: what of it waits is behind what waited before, and a step that is made where it stands is one past it where nothing of it waits.
use Rattle.std.specs.Prelude.{Result, Ok, Err}
use mathlib.Core.Path.{◌≡◌, refl, sym, ap, subst, ◌∙◌}
use mathlib.Core.List.{List, [], ◌++◌}
use Prim.Native.Nat.{ℕ}
use native.Mathlib.Omega.{arith}
use lib.ListN.{length}
use Rattle.model.specs.declared.Refusal.{Refusal}
use Rattle.model.specs.Subobject.{Named}
use Rattle.model.specs.Sequence as M
use Rattle.laws.specs.Exrs.{waits_as, Stretch}
use Rattle.laws.proofs.Waiting.{stretch_on, waits_on}
use Rattle.list_subobject.specs.declared.item.Item.{Item}
use Rattle.list_subobject.specs.Items.{named_of}
use Rattle.list_include.specs.declared.state.State.{State}
use Rattle.list_include.specs.Reading.{since, state_waits, state_of, SoundState, ItemHere, Standing, StateIs, Past, read_of, ReadStepIs}
use Rattle.list_include.proofs.States.{goes_past}

module _ (s : List ℕ) (it : Item) (here : ItemHere s it) where
  pub past-here
      : (st : State) → Standing s it.offset st → (new : List M.Waiting) → waits_as it.offset (named_of s it.named) ≡ new
      → Past s it.offset it.next new st
  past-here st standing new e =
      let next = sym here.there.next in
      record {
        behind = subst (λ (n : ℕ). Stretch s (since st) n) next (stretch_on s it.offset (length s) (omega arith) here.right (since st) standing.behind);
        waits =
            subst (λ (n : ℕ). state_waits s n st ≡ state_waits s it.offset st ++ new) next
            (waits_on s it.offset (length s) (omega arith) here.right (since st) standing.behind
            ∙ ap (λ (n : Named). state_waits s it.offset st ++ waits_as it.offset n) (sym here.there.named)
            ∙ ap (λ (w : List M.Waiting). state_waits s it.offset st ++ w) e);
      }

  pub step_past
      : (r : Result State Refusal) (m : M.Reading M.State) → waits_as it.offset (named_of s it.named) ≡ [] → ReadStepIs s it.offset r m → ReadStepIs s it.next r m
  step_past r m nothing is =
      record {
        means = go r refl ∙ is.means;
        sound = λ st p. let x = is.sound st p in (x.0, (on st x.0 x.1).standing);
      }
    where
      on : (st : State) → SoundState st → (x : Standing s it.offset st) → StateIs s it.next st (state_of s it.offset st)
      on st sound x = goes_past s it.offset it.next st _ (record { means = refl; sound = sound; standing = x }) (past-here st x [] nothing)

      go : (v : Result State Refusal) → r ≡ v → read_of (state_of s it.next) v ≡ read_of (state_of s it.offset) v
      go (Ok st) e = let x = is.sound st e in ap M.good (on st x.0 x.1).means
      go (Err x) e = refl

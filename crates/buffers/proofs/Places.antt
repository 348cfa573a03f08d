-- Bytes put from a place on: nothing, one byte more, and one run after the other. From the library's facts on copies (`lib.Seq`'s paste).
use mathlib.Core.Path.{◌≡◌, refl, sym, ap, ap₂, subst, ◌∙◌}
use mathlib.Core.List.{List, [], ◌∷◌, ◌++◌, append_assoc, append-nil}
use Prim.Native.Nat.{ℕ, zero, suc, ◌+◌, ◌≤◌, ◌<◌}
use native.Mathlib.Nat.{zero-add, add-zero, add_assoc}
use native.Mathlib.Numerals.{add-one}
use native.Mathlib.Omega.{arith}
use lib.ListN.{length, get_or, take, drop, set, replicate, take-append-drop, length-append}
use lib.Seq.{length-take-le, take_at, drop-drop, drop-append-add, paste, paste-suc}
use Rattle.model.specs.Bytes.{bytes_of}
use Rattle.model.specs.Lists.{over}
use Rattle.laws.proofs.Numbers.{length-bytes_of}
use Rattle.buffers.specs.Placed.{placed, Put}

-- ---- one byte more of a run

pub one_more : (old new run : List ℕ) (at j : ℕ) → at + j < length old → j < length run → new ≡ paste old at run j
    → set new (at + j) (get_or run j 0) ≡ paste old at run (j + 1)
one_more old new run at j h k e = rw (e, add-one j) (paste-suc old at run j 0 h k)

pub all_put : (old new run : List ℕ) (at j n : ℕ) → j ≡ n → n ≤ length run → new ≡ paste old at run j → Put at (take n run) old new (at + n)
all_put old new run at j n e h p =
    let l : length (take n run) ≡ n = length-take-le n run h in
    record { holds = rw l (subst (λ (k : ℕ). new ≡ paste old at run k) e p); next = rw l refl }

pub take-replicate : (k n x : ℕ) → k ≤ n → take k (replicate n x) ≡ replicate k x
take-replicate zero n x h = refl
take-replicate (suc k) zero x h = absurd (omega arith)
take-replicate (suc k) (suc n) x h = ap (λ (s : List ℕ). x ∷ s) (take-replicate k n x (omega arith))

-- ---- nothing, and one run after the other

pub nothing_put : (s : List ℕ) (at : ℕ) → Put at [] s s at
nothing_put s at = record {
  holds = sym (rw (append-nil (take at s), add-zero at) (take-append-drop at s));
  next = sym (add-zero at);
}

module _ (old run : List ℕ) (at : ℕ) (h : at ≤ length old) where
  head-length : length (take at old ++ run) ≡ at + length run
  head-length = rw (length-append (take at old) run, length-take-le at old h) refl

  -- the buffer up to the place after the run
  pub placed-take : take (at + length run) (placed at run old) ≡ take at old ++ run
  placed-take = take_at (take at old ++ run) (drop (at + length run) old) (at + length run) head-length

  placed-drop : (n : ℕ) → drop (at + length run + n) (placed at run old) ≡ drop (at + length run + n) old
  placed-drop n =
      ap (λ (k : ℕ). drop (k + n) (placed at run old)) (sym head-length)
      ∙ drop-append-add (take at old ++ run) (drop (at + length run) old) n
      ∙ drop-drop n (at + length run) old

  pub placed-append : (more : List ℕ) → placed (at + length run) more (placed at run old) ≡ placed at (run ++ more) old
  placed-append more =
      rw (placed-take, placed-drop (length more), length-append run more, ← add_assoc at (length run) (length more), append_assoc (take at old) run more) refl

pub put_append : {at m n : ℕ} {a b old mid new : List ℕ} → at ≤ length old → Put at a old mid m → Put m b mid new n → Put at (a ++ b) old new n
put_append {at} {m} {n} {a} {b} {old} {mid} {new} h p q = record {
  holds =
      q.holds
      ∙ ap₂ (λ (k : ℕ) (s : List ℕ). placed k b s) p.next p.holds
      ∙ placed-append old a at h b;
  next = q.next ∙ ap (λ (k : ℕ). k + length b) p.next ∙ add_assoc at (length a) (length b) ∙ ap (λ (k : ℕ). at + k) (sym (length-append a b));
}

-- a number, by the contract of `wire`
pub number_put : (w x at next : ℕ) (s new : List ℕ) → next ≡ at + w → new ≡ take at s ++ bytes_of w x ++ drop (at + w) s → Put at (bytes_of w x) s new next
number_put w x at next s new n e =
    let l : length (bytes_of w x) ≡ w = length-bytes_of w x in
    record { holds = rw l e; next = rw l n }

-- from the start on: over the start
pub paste_front : (old values : List ℕ) (n : ℕ) → n ≤ length values → paste old 0 values n ≡ over (take n values) old
unfolding over
paste_front old values n h = ap (λ (k : ℕ). take n values ++ drop k old) (zero-add n ∙ sym (length-take-le n values h))

-- The objects of a written PCRep: that what the code stores is the object. An object's bytes are those of its stores, one run after the other.
use mathlib.Core.Path.{◌≡◌, refl, sym, ap, ap₂, subst, ◌∙◌}
use mathlib.Core.Bool.{Bool}
use mathlib.Core.List.{List, [], ◌∷◌, ◌++◌, append_assoc}
use Prim.Native.Nat.{ℕ, ◌+◌, ◌*◌, ◌/◌, ◌%◌, ◌^◌, ◌≤◌, ◌<◌}
use native.Mathlib.Omega.{arith}
use lib.ListN.{length, take, drop, length-append}
use lib.Seq.{length-take-le, take-append-le, drop-append_seam, take-take}
use Rattle.model.specs.Lists.{each}
use Rattle.model.specs.Bytes.{bytes_of}
use Rattle.buffers.specs.Placed.{Put}
use Rattle.buffers.proofs.Places.{put_append}
use Rattle.buffers.proofs.Places.{number_put}
use Rattle.laws.proofs.Numbers.{length-bytes_of}
use Rattle.pcep_model.specs.declared.MessageKind.TheVariants.{Pcrep}
use Rattle.pcep_model.specs.Metrics.{Metric}
use Rattle.pcep_model.specs.Pcrep.{mark, header_bytes, written_rp, written_step, written_ero, written_no_path, written_metric}
use Rattle.pcep_laws.proofs.WrittenLength.{steps-length}

-- a number stored at a place
abbrev stored : ℕ → ℕ → ℕ → List ℕ → List ℕ
stored w x at s = take at s ++ bytes_of w x ++ drop (at + w) s

-- two bytes stored as one number
two_bytes : (high low : ℕ) → high < 256 → low < 256 → bytes_of 2 (high * 256 + low) ≡ high ∷ low ∷ []
unfolding bytes_of
two_bytes high low h l =
    let x : ℕ = high * 256 + low in
    let one : x / 256 ^ 1 % 256 ≡ high = omega arith in
    let two : x / 256 ^ 0 % 256 ≡ low = omega arith in
    λ i. one i ∷ two i ∷ []

-- what is stored before other bytes, these being there already
put-before
    : (w x at : ℕ) {m next : ℕ} {bytes s a b : List ℕ} → m ≡ at + w → m ≤ length s → Put m bytes s a next → b ≡ stored w x at a
    → Put at (bytes_of w x ++ bytes) s b next
put-before w x at {m} {next} {bytes} {s} {a} {b} place h p e =
    let front : List ℕ = take m s in
    let back : List ℕ = bytes ++ drop (m + length bytes) s in
    let long : length front ≡ m = length-take-le m s h in
    let held : a ≡ front ++ back = p.holds ∙ append_assoc front bytes (drop (m + length bytes) s) in
    let head : take at a ≡ take at s = ap (take at) held ∙ take-append-le at front back (omega arith) ∙ take-take at m s (omega arith) in
    let tail : drop (at + w) a ≡ back = ap₂ (λ (n : ℕ) (l : List ℕ). drop n l) (sym place ∙ sym long) held ∙ drop-append_seam front back in
    let size : length (bytes_of w x ++ bytes) ≡ w + length bytes = length-append (bytes_of w x) bytes ∙ ap (λ (n : ℕ). n + length bytes) (length-bytes_of w x) in
    let from : m + length bytes ≡ at + length (bytes_of w x ++ bytes) = omega arith in
    record {
      holds =
          e
          ∙ ap₂ (λ (l r : List ℕ). l ++ bytes_of w x ++ r) head tail
          ∙ sym (append_assoc (take at s ++ bytes_of w x) bytes (drop (m + length bytes) s))
          ∙ ap (λ (l : List ℕ). l ++ drop (m + length bytes) s) (append_assoc (take at s) (bytes_of w x) bytes)
          ∙ ap (λ (n : ℕ). take at s ++ (bytes_of w x ++ bytes) ++ drop n s) from;
      next = p.next ∙ from;
    }

pub first-put
    : (address at : ℕ) (s a b : List ℕ) → at + 6 ≤ length s → a ≡ stored 4 address (at + 2) s → b ≡ stored 2 0x0108 at a
    → Put at (1 ∷ 8 ∷ bytes_of 4 address) s b (at + 6)
unfolding bytes_of
first-put address at s a b h e f =
    let whole : Put at (bytes_of 2 0x0108 ++ bytes_of 4 address) s b (at + 6) =
    put-before 2 0x0108 at refl (omega arith) (number_put 4 address (at + 2) (at + 6) s a (omega arith) e) f in
    whole

pub next-put
    : (address at : ℕ) (s a b : List ℕ) → at + 8 ≤ length s → a ≡ stored 4 address (at + 4) s → b ≡ stored 4 0x20000108 at a
    → Put at (32 ∷ 0 ∷ 1 ∷ 8 ∷ bytes_of 4 address) s b (at + 8)
unfolding bytes_of
next-put address at s a b h e f =
    let whole : Put at (bytes_of 4 0x20000108 ++ bytes_of 4 address) s b (at + 8) =
    put-before 4 0x20000108 at refl (omega arith) (number_put 4 address (at + 4) (at + 8) s a (omega arith) e) f in
    whole

pub head-put
    : (size flags id : ℕ) (s a b c d e : List ℕ) → 16 ≤ length s
    → a ≡ stored 4 id 12 s → b ≡ stored 4 (flags % 64) 8 a → c ≡ stored 4 0x0212000c 4 b → d ≡ stored 2 size 2 c → e ≡ stored 2 0x2004 0 d
    → Put 0 (header_bytes Pcrep size ++ written_rp id flags) s e 16
unfolding bytes_of
head-put size flags id s a b c d e h p q r t u =
    let fourth : Put 8 (bytes_of 4 (flags % 64) ++ bytes_of 4 id) s b 16 = put-before 4 (flags % 64) 8 refl (omega arith) (number_put 4 id 12 16 s a refl p) q in
    let third : Put 4 (bytes_of 4 0x0212000c ++ (bytes_of 4 (flags % 64) ++ bytes_of 4 id)) s c 16 = put-before 4 0x0212000c 4 refl (omega arith) fourth r in
    let second : Put 2 (bytes_of 2 size ++ (bytes_of 4 0x0212000c ++ (bytes_of 4 (flags % 64) ++ bytes_of 4 id))) s d 16 = put-before 2 size 2 refl (omega arith) third t in
    let whole : Put 0 (bytes_of 2 0x2004 ++ (bytes_of 2 size ++ (bytes_of 4 0x0212000c ++ (bytes_of 4 (flags % 64) ++ bytes_of 4 id)))) s e 16 = put-before 2 0x2004 0 refl (omega arith) second u in
    whole

pub ero-put
    : (addresses : List ℕ) (at size next : ℕ) (s a b c : List ℕ) → at + 4 ≤ length s → size ≡ 4 + 8 * length addresses
    → a ≡ stored 2 0x0710 at s → b ≡ stored 2 size (at + 2) a → Put (at + 4) (each written_step addresses) b c next
    → Put at (written_ero addresses) s c next
unfolding bytes_of
ero-put addresses at size next s a b c h n e f p =
    let told : size ≡ 4 + length (each written_step addresses) = n ∙ ap (λ (k : ℕ). 4 + k) (sym (steps-length addresses)) in
    let whole : Put at (bytes_of 2 0x0710 ++ bytes_of 2 size ++ each written_step addresses) s c next =
    put_append (omega arith)
    (put_append (omega arith) (number_put 2 0x0710 at (at + 2) s a refl e) (number_put 2 size (at + 2) (at + 4) a b (omega arith) f))
    p in
    subst (λ (k : ℕ). Put at (bytes_of 2 0x0710 ++ bytes_of 2 k ++ each written_step addresses) s c next) told whole

pub no-path-put
    : (nature : ℕ) (c : Bool) (flags at : ℕ) (s x y z : List ℕ) → nature < 256 → flags ≡ 128 * mark c → flags < 256 → at + 8 ≤ length s
    → x ≡ stored 4 0x03100008 at s → y ≡ stored 2 (nature * 256 + flags) (at + 4) x → z ≡ stored 2 0 (at + 6) y
    → Put at (written_no_path nature c) s z (at + 8)
unfolding bytes_of
no-path-put nature c flags at s x y z small e f h p q r =
    let whole : Put at (bytes_of 4 0x03100008 ++ bytes_of 2 (nature * 256 + flags) ++ bytes_of 2 0) s z (at + 8) =
    put_append (omega arith)
    (put_append (omega arith) (number_put 4 0x03100008 at (at + 4) s x refl p) (number_put 2 (nature * 256 + flags) (at + 4) (at + 6) x y (omega arith) q))
    (number_put 2 0 (at + 6) (at + 8) y z (omega arith) r) in
    subst (λ (b : List ℕ). Put at (bytes_of 4 0x03100008 ++ b ++ bytes_of 2 0) s z (at + 8))
    (two_bytes nature flags small f ∙ ap (λ (k : ℕ). nature ∷ k ∷ []) e)
    whole

pub metric-put
    : (m : Metric) (at : ℕ) (s a b c d : List ℕ) → m.kind < 256 → m.flags < 256 → at + 12 ≤ length s
    → a ≡ stored 4 m.value (at + 8) s → b ≡ stored 2 (m.flags * 256 + m.kind) (at + 6) a → c ≡ stored 2 0 (at + 4) b → d ≡ stored 4 0x0610000c at c
    → Put at (written_metric m) s d (at + 12)
unfolding bytes_of
metric-put m at s a b c d k f h p q r t =
    let both : ℕ = m.flags * 256 + m.kind in
    let third : Put (at + 6) (bytes_of 2 both ++ bytes_of 4 m.value) s b (at + 12) =
    put-before 2 both (at + 6) (omega arith) (omega arith) (number_put 4 m.value (at + 8) (at + 12) s a (omega arith) p) q in
    let second : Put (at + 4) (bytes_of 2 0 ++ (bytes_of 2 both ++ bytes_of 4 m.value)) s c (at + 12) = put-before 2 0 (at + 4) (omega arith) (omega arith) third r in
    let whole : Put at (bytes_of 4 0x0610000c ++ (bytes_of 2 0 ++ (bytes_of 2 both ++ bytes_of 4 m.value))) s d (at + 12) = put-before 4 0x0610000c at refl (omega arith) second t in
    subst (λ (x : List ℕ). Put at (bytes_of 4 0x0610000c ++ (bytes_of 2 0 ++ (x ++ bytes_of 4 m.value))) s d (at + 12)) (two_bytes m.flags m.kind f k) whole

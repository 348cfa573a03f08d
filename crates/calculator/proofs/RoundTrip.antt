-- The round trip of the two calls, from their contracts: a list that `write_list` wrote, read by `read_include` with the first domain as ingress into buffers that
-- have the room, gives the domains, marks and EXRS that were written, byte for byte, and the node of each entry constraint.
use Prim.Native.Nat.{ℕ, ◌^◌, ◌≤◌, ◌<◌}
use mathlib.Core.Path.{◌≡◌, sym, ap, ap₂, ◌∙◌}
use mathlib.Core.List.{List, map}
use lib.ListN.{length, get_or, take}
use Rattle.std.specs.Prelude.{Result, Ok}
use Rattle.model.specs.declared.ReadCounts.{ReadCounts}
use Rattle.model.specs.declared.Refusal.{Refusal}
use Rattle.model.specs.Lists.{over}
use Rattle.model.specs.Profile.{domains}
use Rattle.model.specs.Sequence.{Stop}
use Rattle.model.specs.WrittenList.{stops}
use Rattle.model.specs.Answers.{numbers_of_read, done3}
use Rattle.model.specs.Calls.{Outcome, all_exrs, write_list, read_include, pin_mark, pin_node}
use Rattle.laws.proofs.BigEndian.{Bytes}
use Rattle.laws.proofs.Lists.{over-take}
use Rattle.laws.proofs.Stops.{stops-domains, stops-marks, stops-counts, stops-exrs, Accepts, accepts}
use Rattle.laws.proofs.RoundTrip.{Wrote, wrote, read_again}
use Rattle.list_writer.specs.Writing.{WrittenBy}
use Rattle.buffers.specs.Capacity.{least4}
use Rattle.list_reader.specs.ReadInclude.{ReadIs}

-- what comes back: how many domains and bytes of EXRS, and what stands in each buffer
pub record ReadBack (indexes marks nodes counts exrs ds ms ns cs xs : List ℕ) (answer : Result ReadCounts Refusal) (ds' ms' ns' cs' xs' : List ℕ) : Type 0 where
  pub count : numbers_of_read answer ≡ done3 (length indexes) (length exrs)
  pub in_domains : ds' ≡ over indexes ds
  pub in_marks : ms' ≡ over marks ms
  pub in_nodes : ns' ≡ over (map (λ (p : Stop). pin_node p.pin) (stops indexes marks nodes counts exrs)) ns
  pub in_counts : cs' ≡ over counts cs
  pub in_exrs : xs' ≡ over exrs xs

module _ (profile indexes marks nodes counts exrs entry exit : List ℕ) (n : ℕ) (profile-bytes : Bytes profile) (addresses : (i : ℕ) → get_or nodes i 0 < 2 ^ 32) (exrs-bytes : Bytes exrs)
    (w : WrittenBy profile indexes marks nodes counts exrs entry exit (Ok n)) where
  abbrev wrote_it : Outcome ℕ
  wrote_it = write_list profile indexes marks nodes counts exrs (length entry)

  facts : Wrote profile indexes marks nodes counts exrs n (length entry)
  facts = wrote profile indexes marks nodes counts exrs n (length entry) w.numbers

  -- the first n bytes of the buffer are what was written
  same_bytes : take n exit ≡ wrote_it.written
  same_bytes =
      ap₂ (λ (k : ℕ) (s : List ℕ). take k s) (facts.size ∙ ap length (sym facts.bytes-written)) w.buffer ∙ over-take wrote_it.written entry

  pub round_trip : (ds ms ns cs xs : List ℕ) (answer : Result ReadCounts Refusal) (ds' ms' ns' cs' xs' : List ℕ) → length indexes ≤ least4 ds ms ns cs → length exrs ≤ length xs
      → ReadIs profile (get_or indexes 0 0) (take n exit) ds ms ns cs xs answer ds' ms' ns' cs' xs' → ReadBack indexes marks nodes counts exrs ds ms ns cs xs answer ds' ms' ns' cs' xs'
  round_trip ds ms ns cs xs answer ds' ms' ns' cs' xs' room spare r =
      let a : Accepts (domains profile) indexes marks nodes counts exrs = accepts (domains profile) indexes marks nodes counts exrs facts.writable in
      let sequence : Outcome Stop = record { numbers = done3 (length indexes) (length exrs); written = stops indexes marks nodes counts exrs } in
      let read : read_include profile (get_or indexes 0 0) (take n exit) (least4 ds ms ns cs) (length xs) ≡ sequence =
      ap (λ (s : List ℕ). read_include profile (get_or indexes 0 0) s (least4 ds ms ns cs) (length xs)) same_bytes
      ∙ read_again profile indexes marks nodes counts exrs n (length entry) (least4 ds ms ns cs) (length xs) profile-bytes addresses exrs-bytes w.numbers room spare in
      record {
        count = r.numbers ∙ ap (λ (o : Outcome Stop). o.numbers) read;
        in_domains =
            r.in_domains
            ∙ ap (λ (o : Outcome Stop). over (map (λ (p : Stop). p.domain) o.written) ds) read
            ∙ ap (λ (s : List ℕ). over s ds) (stops-domains indexes marks nodes counts exrs a.as_many_marks a.as_many_nodes a.as_many_counts);
        in_marks =
            r.in_marks
            ∙ ap (λ (o : Outcome Stop). over (map (λ (p : Stop). pin_mark p.pin) o.written) ms) read
            ∙ ap (λ (s : List ℕ). over s ms) (stops-marks indexes marks nodes counts exrs a.as_many_marks a.as_many_nodes a.as_many_counts a.marks-known);
        in_nodes = r.in_nodes ∙ ap (λ (o : Outcome Stop). over (map (λ (p : Stop). pin_node p.pin) o.written) ns) read;
        in_counts =
            r.in_counts
            ∙ ap (λ (o : Outcome Stop). over (map (λ (p : Stop). length p.exrs) o.written) cs) read
            ∙ ap (λ (s : List ℕ). over s cs) (stops-counts indexes marks nodes counts exrs a.as_many_marks a.as_many_nodes a.as_many_counts a.all_bytes);
        in_exrs =
            r.in_exrs
            ∙ ap (λ (o : Outcome Stop). over (all_exrs o.written) xs) read
            ∙ ap (λ (s : List ℕ). over s xs) (stops-exrs indexes marks nodes counts exrs a.as_many_marks a.as_many_nodes a.as_many_counts a.all_bytes);
      }

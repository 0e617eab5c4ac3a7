-- How a call that is taken is shown to be the model's, once for all calls but fresh and power: from the area and the record after it, its
-- word, and what the model does.
-- Assumes nothing.
use Prim.Native.Nat.{ℕ, ◌+◌, ◌≤◌, ◌<◌}
use native.Mathlib.Omega.{arith}
use mathlib.Core.Path.{◌≡◌, refl, sym, ap, ◌∙◌, subst}
use mathlib.Core.Bool.{Bool, true, false}
use mathlib.Core.List.{List, [], ◌∷◌, ◌++◌, append-nil}
use lib.ListN.{length, length-append}
use Rattle.octets.specs.Octets.{Octets, pick, cut}
use Rattle.octets.specs.Octal.{Octal}
use Rattle.calls.specs.Kinds.{Ring, Record}
use Rattle.area.specs.Map.{area_size, down_at, up_at, wire_slots}
use Rattle.area.specs.Ring.{packets_from, packets_in}
use Rattle.area.proofs.Rings.{length_packets}
use Rattle.config.specs.Stored.{parameters_ok}
use Rattle.record.specs.Reading.{decode_of}
use Rattle.record.specs.Claims.{saved}
use Rattle.record.specs.Fit.{Shape, Fit, FitRing}
use Rattle.record.specs.Small.{Small}
use Rattle.record.proofs.Saved.{saved_record}
use Rattle.views.specs.View.{view, view_of}
use Rattle.views.proofs.Saved.{saved_view}
use Rattle.model.specs.State.{State}
use Rattle.model.specs.Effects.{Call, Effect, taken, telling}
use Rattle.model.specs.Grants.{WithinGrants}
use Rattle.model.specs.Observer.{Event}
use Rattle.calls.specs.Word.{word_of, word_telling}
use Rattle.calls.specs.Outcome.{Outcome, outcome, tells}
use Rattle.calls.specs.Seen.{Puts, no_puts, starts, restarts, puts_after}
use Rattle.calls.specs.Refines.{Follows, Along, RefinesTo}
use Rattle.calls.proofs.Words.{word_down, word_up, word_seen, word_puts, told_answer, told_dropped, told_handed, told_length, told_down, told_up, told_rfu}
use Rattle.calls.proofs.Refine.{saved_good, puts_seen}

-- ---- a wire

-- a wire whose ring is k now and whose packets are w: m packets ps were put last, after p others since the last fresh or power
pub record Added (p m : ℕ) (k : Ring) (w ps : List Octets) : Type 0 where
  pub follows : Follows (p + m) k
  pub before : List Octets
  pub split : w ≡ before ++ ps
  pub many : length ps ≡ m

pub added_none : (p : ℕ) (k : Ring) (w : List Octets) → Follows p k → Added p 0 k w []
added_none p k w f = record { follows = omega (arith, f); before = w; split = sym (append-nil w); many = refl }

-- k: the ring before, from which the first packet may have been taken
pub added_one : (p : ℕ) (k : Ring) (before : List Octets) (x : Octets) → Follows p k
    → Added p 1 (record { head = k.head; count = k.count + 1 }) (before ++ (x ∷ [])) (x ∷ [])
added_one p k before x f = record { follows = omega (arith, f); before = before; split = refl; many = refl }

module _ (base : ℕ) (b : Octets) (p m : ℕ) (k : Ring) (w ps : List Octets) (x : Added p m k w ps) (e : packets_in base wire_slots b k ≡ w) where
  parts : k.count ≡ length x.before + m
  parts =
      sym (length_packets base wire_slots b k) ∙ ap length (e ∙ x.split) ∙ length-append x.before ps
      ∙ ap (λ (n : ℕ). length x.before + n) x.many

  -- they are seen in the slots that follow those of the others
  added_seen : packets_from base wire_slots b p m ≡ ps
  added_seen =
      puts_seen base b (record { head = k.head; count = length x.before }) k p m x.before ps (omega (arith, x.follows, parts)) refl parts refl (e ∙ x.split)

  added_few : FitRing wire_slots k → m < 256
  added_few f = omega (arith, f.count, parts)

-- ---- a call

module _ (c : Call) (q : Puts) (x t : Octets) (n : Record) where
  -- x: the area before the record n is written, t: the message buffer; the word's parts, and what the model does
  pub record Took (d h : Bool) (len down up : ℕ) (e : Effect) : Type 0 where
    pub long : area_size ≤ length x
    pub fit : Fit n
    pub shape : Shape n
    pub octal : Octal x
    pub small : Small n
    pub short : len < 65536
    pub drop : d ≡ e.drop
    pub rfu : 0 ≡ e.rfu
    pub message : pick h (cut 0 len t ∷ []) [] ≡ e.message
    pub next : view x n ≡ e.next
    pub to_down : Added q.down down n.down e.next.down e.to_down
    pub to_up : Added q.up up n.up e.next.up e.to_up

  module _ (d h : Bool) (len down up : ℕ) (e : Effect) (k : Took d h len down up e) where
    abbrev area : Octets
    area = saved x n

    after : decode_of area ≡ n
    after = saved_record x n k.long k.fit k.shape

    next_view : view_of area ≡ e.next
    next_view = saved_view x n k.long k.fit k.shape ∙ k.next

    fits : Fit (decode_of area)
    fits = subst Fit (sym after) k.fit

    downs : Added q.down down (decode_of area).down e.next.down e.to_down
    downs = subst (λ (y : Record). Added q.down down y.down e.next.down e.to_down) (sym after) k.to_down

    ups : Added q.up up (decode_of area).up e.next.up e.to_up
    ups = subst (λ (y : Record). Added q.up up y.up e.next.up e.to_up) (sym after) k.to_up

    on_down_law : packets_in down_at wire_slots area (decode_of area).down ≡ e.next.down
    on_down_law = ap (λ (s : State). s.down) next_view

    on_up_law : packets_in up_at wire_slots area (decode_of area).up ≡ e.next.up
    on_up_law = ap (λ (s : State). s.up) next_view

    pub took_refines : starts c ≡ false → RefinesTo c q (outcome (word_of d h len down up) area t) (record { answer = taken; effect = e })
    took_refines still =
        let few-down = added_few down_at area q.down down (decode_of area).down e.next.down e.to_down downs on_down_law fits.down in
        let few-up = added_few up_at area q.up up (decode_of area).up e.next.up e.to_up ups on_up_law fits.up in
        record {
          good =
              λ w v.
              saved_good x n k.long k.fit k.shape k.octal k.small (subst WithinGrants (sym k.next) w)
              (subst (λ (s : State). parameters_ok s.config ≡ true) (sym k.next) v);
          event =
              word_seen d h len down up k.short few-down few-up c q area t
              ∙ (λ i.
              record {
                call = c;
                answer = taken;
                dropped = k.drop i;
                rfu = k.rfu i;
                to_down = added_seen down_at area q.down down (decode_of area).down e.next.down e.to_down downs on_down_law i;
                to_up = added_seen up_at area q.up up (decode_of area).up e.next.up e.to_up ups on_up_law i;
                message = k.message i;
              });
          next = next_view;
          along =
              subst (λ (p : Puts). Along p area) (sym (word_puts d h len down up k.short few-down few-up c q still))
              (record { down = downs.follows; up = ups.follows });
          there =
              record {
                down =
                    omega (arith, word_down d h len down up k.short few-down, parts down_at area q.down down (decode_of area).down e.next.down e.to_down downs on_down_law);
                up =
                    omega (arith, word_up d h len down up k.short few-down few-up, parts up_at area q.up up (decode_of area).up e.next.up e.to_up ups on_up_law);
              };
        }

-- ---- a call that takes a packet tells its reserved bits: the model's effect with them

pub tells_refines : (c : Call) (q : Puts) (n : ℕ) (o : Outcome) (e : Effect) → n < 256 → RefinesTo c q o (record { answer = taken; effect = e })
    → RefinesTo c q (tells n o) (record { answer = taken; effect = telling n e })
tells_refines c q n o e small r =
    let w = o.word in
    let seen = r.event in
    let puts : puts_after c q (word_telling n w) ≡ puts_after c q w =
    (λ i. pick (restarts c (told_answer n w i)) no_puts (record { down = q.down + told_down n w i; up = q.up + told_up n w i }))
    in
    record {
      good = r.good;
      event =
          λ i.
          record {
            call = c;
            answer = (told_answer n w ∙ ap (λ (x : Event). x.answer) seen) i;
            dropped = (told_dropped n w ∙ ap (λ (x : Event). x.dropped) seen) i;
            rfu = (told_rfu n w small ∙ ap (λ (x : Event). pick x.dropped 0 n) seen) i;
            to_down = ((λ j. packets_from down_at wire_slots o.area q.down (told_down n w j)) ∙ ap (λ (x : Event). x.to_down) seen) i;
            to_up = ((λ j. packets_from up_at wire_slots o.area q.up (told_up n w j)) ∙ ap (λ (x : Event). x.to_up) seen) i;
            message = ((λ j. pick (told_handed n w j) (cut 0 (told_length n w j) o.out ∷ []) []) ∙ ap (λ (x : Event). x.message) seen) i;
          };
      next = r.next;
      along = subst (λ (p : Puts). Along p o.area) (sym puts) r.along;
      there = record { down = omega (arith, told_down n w, r.there.down); up = omega (arith, told_up n w, r.there.up) };
    }

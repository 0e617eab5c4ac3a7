-- What is printed for a paper is what the model shows: `Papers` of `specs/Paper.antt`.
-- Assumes nothing.
use Prim.Native.Nat.{ℕ, ◌≤◌}
use mathlib.Core.Path.{◌≡◌, refl, sym, ap, ◌∙◌, subst}
use mathlib.Core.Bool.{Bool, true, false, not}
use mathlib.Core.List.{List, [], ◌∷◌, ◌++◌}
use native.Mathlib.Omega.{arith}
use lib.ListN.{length, get_or, drop, length-replicate}
use Rattle.octets.specs.Octets.{Octets, pick, cut}
use Rattle.octets.specs.Octal.{Octal, octal_nil}
use Rattle.octets.proofs.Octal.{octal_drop}
use Rattle.state.specs.Profile.{profile_in, profile_octets_ok}
use Rattle.area.specs.Map.{area_size, message_size}
use Rattle.record.specs.Layout.{bit}
use Rattle.views.specs.View.{view_of}
use Rattle.model.specs.State.{State, cold}
use Rattle.model.specs.Refusals.{first}
use Rattle.model.specs.Effects.{Call, taken, refused, fresh, power, command, send, push, down, consume, credit, air, reply, up, report}
use Rattle.model.specs.Bench.{step}
use Rattle.model.specs.Observer.{Account, opening, observe, observed, events, event_of}
use Rattle.model.specs.Press.{press}
use Rattle.model.specs.Grants.{WithinGrants}
use Rattle.model.specs.invariant.Bench as bench
use Rattle.model.proofs.Fine as fine
use Rattle.state.proofs.Limits.{profile_limits}
use Rattle.model.proofs.Trace.{step_keeps, calls_keep}
use Rattle.model.proofs.Never.{kept_within}
use Rattle.calls.specs.Word.{number_of, length_in, moves_in}
use Rattle.calls.specs.Outcome.{Outcome, outcome}
use Rattle.calls.specs.Packet.{handed_by, last_packets}
use Rattle.calls.specs.Read.{Found, found_of, read_call, Says}
use Rattle.calls.specs.Seen.{Puts, no_puts, puts_after}
use Rattle.calls.specs.Refines.{Good, Along, Refines}
use Rattle.calls.specs.Run.{run_call}
use Rattle.calls.specs.Rest.{MovesWithin}
use Rattle.calls.specs.calls.Fresh.{freshed, fresh_call}
use Rattle.calls.proofs.Refine.{refined_good, ring_puts, ring_along}
use Rattle.calls.proofs.Displayed.{refined_shown}
use Rattle.calls.proofs.Read.{read_says}
use Rattle.calls.proofs.Demand.{all_refine}
use Rattle.calls.proofs.Rest.{all_tell}
use Rattle.calls.specs.Demand.{perform, slice}
use Rattle.calls.proofs.FreshPower.{fresh_good, fresh_view, fresh_along, fresh_own}
use Rattle.ascii.specs.Digits.{hex_of, decimal_of}
use Rattle.sheet.specs.Kinds.{Name}
use Rattle.sheet.specs.Kinds.name.{Fresh, Power, Command, Send, Push, Down, Consume, Credit, Air, Reply, Up, Report, Read, Bad, Run}
use Rattle.forms.specs.Names.{is_bad, is_run}
use Rattle.forms.specs.Form.{args_of, asks}
use Rattle.sheet.specs.Play.{played}
use Rattle.sheet.specs.Show.{ans_label, drop_label, rfu_label, pkt_label, msg_label, moves_label, zero_buffer, joined, wire_shown, put_by, message_text, event_field, answer_field, drop_field, rfu_field, message_field, line_of}
use Rattle.sheet.specs.Sheet.{Answer, refused_line, shown, answer_to}
use Rattle.sheet.specs.Paper.{printed, Asks, calls, reads, presses, nothing, asks_of, event_line, found_line, line_by, next_by, modelled, first_profile, WithinBy, AllWithin, Papers}
use Rattle.forms.proofs.Forming.{args_octal}
use Rattle.sheet.proofs.Fitting.{kept}

-- ---- a call's line is the line of what is seen of it

seen_line_law : (x : Name) (c : Call) (p : Puts) (a : Octets) (o : Outcome) → is_run x ≡ false → Refines c p a o → Good o.area
    → line_of x o ≡ event_line x (event_of c (step c (view_of a)))
unfolding handed_by
seen_line_law x c p a o call r g =
    let room : (i : ℕ) → message_size ≤ length (zero_buffer i) = λ i. omega (arith, length-replicate {A = ℕ} message_size 0) in
    let put = refined_shown zero_buffer c p a o r g room in
    let front = event_field x ++ answer_field o.word ++ drop_field o.word ++ rfu_field o.word in
    (λ i. front ++ (pkt_label ++ hex_of (pick (call i) [] (put_by o))) ++ message_field o ++ pick (call i) (moves_label ++ decimal_of (moves_in o.word)) [])
    ∙ (λ i. front ++ (pkt_label ++ hex_of (joined (put.0 i) ++ joined (put.1 i))) ++ message_field o ++ pick (sym call i) (moves_label ++ decimal_of 0) [])
    ∙ ap (event_line x) r.event

-- ---- and so is that of octets that are read

says_line : (w : ℕ) (f : Found) (a out : Octets) → Says w f → line_of Read (outcome w a out) ≡ found_line Read f
unfolding handed_by last_packets joined
says_line w f a out s i =
    event_field Read
    ++ (ans_label ++ decimal_of (number_of (s.answers i)))
    ++ (drop_label ++ decimal_of (bit (s.drops i)))
    ++ (rfu_label ++ hex_of (s.tells i ∷ []))
    ++ (pkt_label ++ hex_of (wire_shown 0 (s.puts_down i) a ++ wire_shown 1 (s.puts_up_law i) a))
    ++ (msg_label ++ message_text (pick (s.hands i) (cut 0 (length_in w) out ∷ []) []))
    ++ []

-- ---- one line

record Turn (x : Name) (k : Asks) (s : State) (z : Answer) : Type 0 where
  pub line : z.line ≡ line_by x k s
  pub good : Good z.area
  pub next : view_of z.area ≡ next_by k s
  pub room : message_size ≤ length z.out
  pub puts : Puts
  pub along : Along puts z.area

by_call : (x : Name) (c : Call) (p : Puts) (a out : Octets) → is_run x ≡ false → Octal (slice c) → Good a → message_size ≤ length out → Along p a
    → WithinGrants (step c (view_of a)).effect.next → Turn x (calls c) (view_of a) (shown x (perform c a out))
by_call x c p a out call v g room al w =
    let o = perform c a out in
    let r = all_refine c p a out v g room al in
    let after = refined_good c p a o g r w in
    record {
      line = seen_line_law x c p a o call r after;
      good = after;
      next = r.next;
      room = omega (arith, (kept c a out).room, room);
      puts = puts_after c p o.word;
      along = r.along;
    }

-- a press is the model's
by_press : (a out : Octets) → Good a → message_size ≤ length out → MovesWithin (press (view_of a)) (view_of a) → Turn Run presses (view_of a) (shown Run (run_call a out))
by_press a out g room w =
    let o = run_call a out in
    let t = all_tell a out g room w in
    record {
      line =
          λ i.
          event_field Run
          ++ (ans_label ++ decimal_of (number_of (t.answers i)))
          ++ (drop_label ++ decimal_of (bit (t.drops i)))
          ++ (rfu_label ++ hex_of (t.clear i ∷ []))
          ++ (pkt_label ++ hex_of [])
          ++ (msg_label ++ message_text (t.hands i))
          ++ (moves_label ++ decimal_of (t.counts i));
      good = t.good;
      next = t.next;
      room = omega (arith, t.room, room);
      puts = ring_puts o.area;
      along = ring_along o.area;
    }

turn : (x : Name) (m : Octets) (p : Puts) (a out : Octets) → Octal m → Good a → message_size ≤ length out → Along p a → WithinBy (asks_of x m) (view_of a)
    → Turn x (asks_of x m) (view_of a) (pick (is_bad x) (refused_line a out) (shown x (played x m a out)))
turn Fresh m p a out o g r al w = by_call Fresh (fresh m) p a out refl o g r al w
turn Power m p a out o g r al w = by_call Power power p a out refl octal_nil g r al w
turn Command m p a out o g r al w = by_call Command (command (get_or m 0 0) (get_or m 1 0) (drop 2 m)) p a out refl (octal_drop 2 o) g r al w
turn Send m p a out o g r al w = by_call Send (send (get_or m 0 0) (drop 1 m)) p a out refl (octal_drop 1 o) g r al w
turn Push m p a out o g r al w = by_call Push (push (get_or m 0 0)) p a out refl octal_nil g r al w
turn Down m p a out o g r al w = by_call Down down p a out refl octal_nil g r al w
turn Consume m p a out o g r al w = by_call Consume (consume (get_or m 0 0)) p a out refl octal_nil g r al w
turn Credit m p a out o g r al w = by_call Credit credit p a out refl octal_nil g r al w
turn Air m p a out o g r al w = by_call Air (air m) p a out refl o g r al w
turn Reply m p a out o g r al w = by_call Reply reply p a out refl octal_nil g r al w
turn Up m p a out o g r al w = by_call Up up p a out refl octal_nil g r al w
turn Report m p a out o g r al w = by_call Report (report (get_or m 0 0)) p a out refl octal_nil g r al w
turn Read m p a out o g r al w = record { line = says_line (read_call m) (found_of m) a out (read_says m o); good = g; next = refl; room = r; puts = p; along = al }
turn Bad m p a out o g r al w = record { line = refl; good = g; next = refl; room = r; puts = p; along = al }
turn Run m p a out o g r al w = by_press a out g r w

-- ---- all of them

same_lines : (ls : List Octets) (p : Puts) (a out : Octets) → Good a → message_size ≤ length out → Along p a → AllWithin ls (view_of a) → printed ls a out ≡ modelled ls (view_of a)
unfolding printed modelled answer_to
same_lines [] p a out g r al w = refl
same_lines (l ∷ ls) p a out g r al w =
    let x = asks l in
    let m = args_of l in
    let z = answer_to l a out in
    let t = turn x m p a out (args_octal l) g r al w.0 in
    (λ i. t.line i ∷ printed ls z.area z.out)
    ∙ ap (λ (ws : List Octets). line_by x (asks_of x m) (view_of a) ∷ ws)
    (same_lines ls t.puts z.area z.out t.good t.room t.along (subst (AllWithin ls) (sym t.next) w.1) ∙ ap (modelled ls) t.next)

-- ---- on a bench of the model's invariant no line brings credits past a grant

-- the account of a line's calls, if it asks any
abbrev account_by : Asks → State → Account → Account
account_by (calls c) s o = observe (event_of c (step c s)) o
account_by (reads m) s o = o
account_by presses s o = observed (events (press s) s) o
account_by nothing s o = o

line_keeps : (x : Asks) (s : State) (o : Account) → bench.Kept s o → bench.Kept (next_by x s) (account_by x s o)
line_keeps (calls c) s o k = step_keeps c s o k
line_keeps (reads m) s o k = k
line_keeps presses s o k = calls_keep (press s) s o k
line_keeps nothing s o k = k

moves_within_law : (cs : List Call) (s : State) (o : Account) → bench.Kept s o → MovesWithin cs s
moves_within_law [] s o k = tt
moves_within_law (c ∷ cs) s o k =
    let next = step_keeps c s o k in
    (kept_within (step c s).effect.next (observe (event_of c (step c s)) o) next, moves_within_law cs (step c s).effect.next (observe (event_of c (step c s)) o) next)

line_within : (x : Asks) (s : State) (o : Account) → bench.Kept s o → WithinBy x s
line_within (calls c) s o k = kept_within (next_by (calls c) s) (account_by (calls c) s o) (line_keeps (calls c) s o k)
line_within (reads m) s o k = kept_within s o k
line_within presses s o k = moves_within_law (press s) s o k
line_within nothing s o k = kept_within s o k

all_within : (ls : List Octets) (s : State) (o : Account) → bench.Kept s o → AllWithin ls s
all_within [] s o k = tt
all_within (l ∷ ls) s o k =
    let x = asks_of (asks l) (args_of l) in
    (line_within x s o k, all_within ls (next_by x s) (account_by x s o) (line_keeps x s o k))

first_ok : profile_octets_ok first_profile ≡ true
first_ok = refl

first_kept : bench.Kept (cold (profile_in first_profile)) opening
first_kept = fine.kept (fine.cold_fine (profile_in first_profile) (profile_limits first_profile first_ok))

fresh_lines : (ls : List Octets) (a out : Octets) → Octal a → area_size ≤ length a → message_size ≤ length out
    → printed ls (fresh_call a out first_profile).area out ≡ modelled ls (cold (profile_in first_profile))
unfolding first
fresh_lines ls a out o long room =
    let done = fresh_own a out first_profile long room taken (ap (λ (b : Bool). pick (not b) (refused 3) taken) first_ok) in
    ap (λ (y : Outcome). printed ls y.area out) (sym done)
    ∙ same_lines ls no_puts (freshed first_profile a out).area out (fresh_good a first_profile long o first_ok out) room (fresh_along a first_profile long o first_ok out)
    (subst (AllWithin ls) (sym (fresh_view a first_profile long o first_ok out)) (all_within ls (cold (profile_in first_profile)) opening first_kept))
    ∙ ap (modelled ls) (fresh_view a first_profile long o first_ok out)

pub papers : Papers
papers = record { same = same_lines; from_fresh = fresh_lines }

-- down: the controller takes the first down packet, stores data and answers a command when it is whole.
-- Assumes nothing.
use Rattle.std.specs.Prelude.{ℕ, Bool, true, false, ◌&&◌, List, [], ◌∷◌, eqb, leb, length}
use Rattle.octets.specs.Octets.{Octets, pick}
use Rattle.packets.specs.Types.{mt_command}
use Rattle.packets.specs.Segments.{Segment, more, last}
use Rattle.model.specs.Kinds.{Profile}
use Rattle.state.specs.Judgement.{Judgement}
use Rattle.nfcc.specs.Controller.{judge_of, controller_after, config_by}
use Rattle.messages.specs.Layout.{response_message, notice_message}
use Rattle.model.specs.Connection.{with_controller, stored}
use Rattle.messages.specs.Packets.{response_packet, notice_packets}
use Rattle.wires.specs.Meaning.{Meaning, datum, control, junk, meaning}
use Rattle.model.specs.State.{State, is_open, at, with_conns, with_down, with_controller_state, with_asking, with_config}
use Rattle.model.specs.Effects.{Effect, quiet, flagged_as, putting_up}
use Rattle.model.specs.Refusals.{Rule, rule, is_nil, full}
use Rattle.model.specs.Runs.{run_after, whole_by, flag_by}
use Rattle.ends.specs.Changes.{change_by}
use Rattle.model.specs.Changes.{at_controller}

-- the last packet of a command needs two slots for its answer
abbrev pub needs_two : Meaning → Bool
needs_two (datum c n x) = false
needs_two (control mt gid oid (more b)) = false
needs_two (control mt gid oid (last b)) = eqb mt mt_command
needs_two junk = false

abbrev pub too_tight : State → List Octets → Bool
too_tight s [] = false
too_tight s (p ∷ w) = needs_two (meaning p) && full 2 s.up

abbrev pub store_full : State → Meaning → Bool
store_full s (datum c n x) = is_open s c && leb 8 (length (s.conns c).controller.store)
store_full s (control mt gid oid x) = false
store_full s junk = false

abbrev pub first_full : State → List Octets → Bool
first_full s [] = false
first_full s (p ∷ w) = store_full s (meaning p)

-- the response, and the notification after it; b is the configuration, m the command's payload
abbrev pub answers : ℕ → ℕ → Profile → Octets → Octets → Judgement → List Octets
answers gid oid p b m v = response_packet (response_message gid oid p b m v) ∷ notice_packets (notice_message v)

abbrev pub deciding : ℕ → ℕ → Octets → Judgement → State → Effect
deciding gid oid m v s =
    putting_up false (answers gid oid s.profile s.config m v) []
    (with_config (config_by s.config m v)
    (with_controller_state (controller_after s.controller v)
    (with_conns (λ d. with_controller (at_controller (change_by v d) (s.conns d).controller) (s.conns d)) s)))

-- a whole command is answered; a segment that ends none only joins its run
abbrev pub answering : ℕ → ℕ → List Octets → Bool → State → Effect
answering gid oid [] b s = flagged_as b s
answering gid oid (m ∷ ms) b s = deciding gid oid m (judge_of s.profile s.controller (is_open s) gid oid m) s

abbrev pub asked : ℕ → ℕ → Segment → State → Effect
asked gid oid x s =
    answering gid oid (whole_by s.asking mt_command gid oid x) (flag_by s.asking mt_command gid oid x) (with_asking (run_after s.asking mt_command gid oid x) s)

abbrev pub storing : ℕ → Octets → State → Effect
storing c p s =
    pick (is_open s c) (quiet (with_conns (at c (λ k. with_controller (stored p k.controller) k) s.conns) s)) (flagged_as true s)

-- data is stored, or dropped if the connection isn't open; commands aside, the rest is dropped
abbrev pub arriving : Meaning → Octets → State → Effect
arriving (datum c n x) p s = storing c p s
arriving (control mt gid oid x) p s = pick (eqb mt mt_command) (asked gid oid x s) (flagged_as true s)
arriving junk p s = flagged_as true s

abbrev pub taking_down : List Octets → State → Effect
taking_down [] s = quiet s
taking_down (p ∷ w) s = arriving (meaning p) p (with_down w s)

-- ---- refusals

abbrev pub down_rules : State → List Rule
down_rules s = rule 4 (too_tight s s.down) ∷ rule 8 (is_nil s.down) ∷ rule 12 (first_full s s.down) ∷ []

-- What a verdict does to the configuration: its octets stay as many, and octets; the response fits a packet; and the packets of the answer leave the
-- configuration alone.
-- Assumes nothing.
use Prim.Native.Nat.{ℕ, ◌≤◌}
use native.Mathlib.Omega.{arith}
use mathlib.Core.Path.{◌≡◌, refl, ◌∙◌}
use mathlib.Core.List.{List, [], ◌∷◌}
use lib.ListN.{length}
use lib.Dec.{eqb}
use Rattle.std.specs.Prelude.{Ok}
use Rattle.octets.specs.Octets.{Octets, splice}
use Rattle.octets.specs.Octal.{Octal}
use Rattle.octets.proofs.Octets.{cut_after}
use Rattle.octets.proofs.Octal.{octal_cut}
use Rattle.packets.specs.Headers.{control_header}
use Rattle.packets.proofs.Packet.{length_packet}
use Rattle.calls.specs.Kinds.{Ring, Profile, Ends}
use Rattle.calls.specs.Kinds.verdict as verdict
use Rattle.state.specs.Judgement.{Judgement}
use Rattle.state.specs.Conn.{open_at}
use Rattle.state.specs.Runs.{control_limit}
use Rattle.state.proofs.Chains.{on}
use Rattle.config.specs.Table.{config_size}
use Rattle.config.specs.Commands.{count_in, param_at}
use Rattle.config.proofs.Lists.{set_long}
use Rattle.config.proofs.SetOctets.{defaults_octal, set_first_octal}
use Rattle.nfcc.specs.Controller.{config_by}
use Rattle.nfcc.proofs.Verdicts.{judge_whole}
use Rattle.nfcc.proofs.Judgements.{after_verdict}
use Rattle.messages.specs.Layout.{response_of, notice_message}
use Rattle.messages.proofs.Lengths.{response_short, notice_short}
use Rattle.ends.specs.Steps.{verdict_of}
use Rattle.area.specs.Map.{slot_size, wire_slots, control_size, up_at}
use Rattle.area.specs.Ring.{free_at, put_into}
use Rattle.area.specs.Movers.{puts_all}
use Rattle.record.specs.Layout.{config_at, config_octets}
use Rattle.model.specs.Reachable.{Each}
use Rattle.model.specs.calls.Down.{answers}

-- ---- the configuration after a verdict

pub config_long : (b m : Octets) (v : Judgement) → length b ≡ config_size → length (config_by b m v) ≡ config_size
config_long b m v long = after_verdict (λ x. length x ≡ config_size) b m refl long (set_long b m (count_in m) ∙ long) v

-- of an area too short there are fewer
pub config_few : (b m : Octets) (v : Judgement) → length b ≤ config_size → length (config_by b m v) ≤ config_size
config_few b m v few = after_verdict (λ x. length x ≤ config_size) b m (omega arith) few (omega (arith, few, set_long b m (count_in m))) v

pub config_octal : (b m : Octets) (v : Judgement) → Octal b → Octal m → Octal (config_by b m v)
config_octal b m v ob om = after_verdict Octal b m defaults_octal ob (set_first_octal ob om (count_in m)) v

pub octal_config : {a : Octets} → Octal a → Octal (config_octets a)
unfolding config_octets
octal_config o = octal_cut config_at config_size o

-- ---- a set that is taken is whole, so its response fits

pub verdict_whole : (e : Ends) (gid oid : ℕ) (m : Octets) → length m ≤ control_size → verdict_of e gid oid m ≡ Ok verdict.SetsConfig → param_at m (count_in m) ≤ control_limit
verdict_whole e gid oid m few is = omega (arith, few, judge_whole e.profile e.controller (open_at e.conns) gid oid m is)

-- each packet of the answer has room in a slot
pub answers_fit : (gid oid : ℕ) (p : Profile) (b m : Octets) (v : Judgement) → (v ≡ Ok verdict.SetsConfig → param_at m (count_in m) ≤ control_limit)
    → Each (λ x. length x ≤ slot_size) (answers gid oid p b m v)
answers_fit gid oid p b m v whole = (
  omega (arith, length_packet (control_header 2 gid oid) (response_of p b m v), response_short p b m v whole),
  on (Each (λ x. length x ≤ slot_size)) (eqb (length (notice_message v).payload) 0) (λ _. tt)
      (λ _. (omega (arith, length_packet (control_header 3 (notice_message v).gid (notice_message v).oid) (notice_message v).payload, notice_short v), tt)),
)

-- ---- packets in the slots of the up wire lie before it

pub puts_config : (ps : List Octets) → Each (λ x. length x ≤ slot_size) ps → (a : Octets) (k : Ring) → config_octets (puts_all up_at a k ps) ≡ config_octets a
unfolding puts_all config_octets
puts_config [] few a k = refl
puts_config (p ∷ ps) few a k =
    puts_config ps few.1 (splice a (free_at up_at wire_slots k) p) (put_into k)
    ∙ cut_after a (free_at up_at wire_slots k) p config_at config_size (omega (arith, few.0))

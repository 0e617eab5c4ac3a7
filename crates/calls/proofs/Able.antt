-- What is known of a call that no rule refuses, from the number that its guard answered: what its act asks for.
-- Assumes nothing.
use Prim.Native.Nat.{ℕ}
use mathlib.Core.Path.{◌≡◌, refl, ap, ◌∙◌}
use lib.ListN.{length}
use Rattle.octets.specs.Octets.{Octets}
use Rattle.calls.specs.Kinds.{Record}
use Rattle.area.specs.Map.{places}
use Rattle.record.specs.Fit.{Fit}
use Rattle.views.specs.View.{view}
use Rattle.views.specs.Moves.{Sound}
use Rattle.model.specs.calls.Command.{command_rules}
use Rattle.model.specs.calls.Send.{send_rules}
use Rattle.model.specs.calls.Credit.{credit_rules}
use Rattle.model.specs.calls.Reply.{reply_rules}
use Rattle.model.specs.calls.Down.{down_rules}
use Rattle.model.specs.calls.Consume.{consume_rules}
use Rattle.model.specs.calls.Up.{up_rules}
use Rattle.model.specs.calls.Air.{air_rules}
use Rattle.calls.specs.Outcome.{lowest}
use Rattle.calls.specs.calls.Command.{Commandable}
use Rattle.calls.specs.calls.Send.{Sendable}
use Rattle.calls.specs.calls.Credit.{Creditable}
use Rattle.calls.specs.calls.Reply.{Replyable}
use Rattle.calls.specs.calls.Down.{down_read, Downable}
use Rattle.calls.specs.calls.Consume.{Consumable}
use Rattle.calls.specs.calls.Up.{Uppable}
use Rattle.calls.specs.calls.Air.{Airable}
use Rattle.calls.proofs.Rules.{first_taken}
use Rattle.calls.proofs.Command.{command_tests, command_tests_law, command_facts}
use Rattle.calls.proofs.Send.{send_tests, send_tests_law, send_facts}
use Rattle.calls.proofs.Credit.{credit_tests, credit_tests_law, credit_facts}
use Rattle.calls.proofs.Reply.{reply_tests, reply_tests_law, reply_facts}
use Rattle.calls.proofs.Down.{down_tests, down_tests_law, down_facts}
use Rattle.calls.proofs.ConsumeRecord.{consume_tests, consume_tests_law, consume_facts}
use Rattle.calls.proofs.UpPacket.{up_tests, up_tests_law, up_facts}
use Rattle.calls.proofs.Air.{air_tests, air_tests_law, air_facts}

pub command_able : (a : Octets) (r : Record) (gid oid : ℕ) (m : Octets) → Fit r → 0 ≡ lowest (command_rules gid oid m (view a r)) → Commandable r gid oid m
command_able a r gid oid m f e =
    command_facts r gid oid m f (first_taken (command_tests r gid oid m) refl (e ∙ ap lowest (command_tests_law a r gid oid m)))

pub send_able : (a : Octets) (r : Record) (c : ℕ) (m : Octets) → 0 ≡ lowest (send_rules c m (view a r)) → Sendable c m
send_able a r c m e = send_facts r c m (first_taken (send_tests r c m) refl (e ∙ ap lowest (send_tests_law a r c m)))

pub credit_able : (a : Octets) (r : Record) → Fit r → length r.ends.conns ≡ places → 0 ≡ lowest (credit_rules (view a r)) → Creditable r
credit_able a r f five e = credit_facts r f (first_taken (credit_tests r) refl (e ∙ ap lowest (credit_tests_law a r five)))

pub reply_able : (a : Octets) (r : Record) → Fit r → 0 ≡ lowest (reply_rules (view a r)) → Replyable r
reply_able a r f e = reply_facts r f (first_taken (reply_tests r) refl (e ∙ ap lowest (reply_tests_law a r)))

pub consume_able : (a : Octets) (r : Record) (c : ℕ) → Fit r → 0 ≡ lowest (consume_rules c (view a r)) → Consumable r c
consume_able a r c f e = consume_facts r c f (first_taken (consume_tests r c) refl (e ∙ ap lowest (consume_tests_law a r c)))

pub down_able : (a : Octets) (r : Record) → Sound a r → 0 ≡ lowest (down_rules (view a r)) → Downable r a
down_able a r s e =
    down_facts a r s (first_taken (down_tests r (down_read r a)) refl (e ∙ ap lowest (down_tests_law a r s.fit.down.head)))

pub up_able : (a : Octets) (r : Record) → Sound a r → 0 ≡ lowest (up_rules (view a r)) → Uppable r
up_able a r s e = up_facts r s.fit s.shape (first_taken (up_tests r) refl (e ∙ ap lowest (up_tests_law a r)))

pub air_able : (a : Octets) (r : Record) (m : Octets) → Fit r → 0 ≡ lowest (air_rules m (view a r)) → Airable r m
air_able a r m f e = air_facts r m f (first_taken (air_tests r m) refl (e ∙ ap lowest (air_tests_law a r m)))

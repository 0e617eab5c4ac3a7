-- The loop of `messages::layout::credits_ntf`.
use Rattle.messages.specs.Layout.{owed_of}
use Rattle.messages.proofs.Messages.{Entries}
use Rattle.messages.proofs.layout.credits_ntf.Given as goal

abbrev pub invariant-loop-i : goal.invariant-loop-i
invariant-loop-i l = Entries (owed_of l.conns) l.initial.out l.out l.at l.i

-- What the controller makes of a command: what it decides, or the status that it refuses with.
-- Assumes nothing.
use Rattle.std.specs.Prelude.{ℕ, Result}
use Rattle.state.specs.Names.{rejected, syntax_error, semantic_error, already_started}
use Rattle.state.specs.Kinds.{Status, Verdict}
use Rattle.state.specs.Kinds.status.{Rejected, SyntaxError, SemanticError, AlreadyStarted, Other}

abbrev pub Judgement : Type 0
Judgement = Result Verdict Status

-- the octet of a refusal's status (003, Table 129)
abbrev pub octet_of : Status → ℕ
octet_of Rejected = rejected
octet_of SyntaxError = syntax_error
octet_of SemanticError = semantic_error
octet_of AlreadyStarted = already_started
octet_of (Other n) = n

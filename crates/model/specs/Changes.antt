-- A change of a connection (`Change` of `ends`), at the model's two ends.
-- Assumes nothing.
use Rattle.ends.specs.Changes.{Change, stays, opens, closes, gives}
use Rattle.model.specs.Connection.{HostEnd, ControllerEnd, closed_host, opened_host, closed_controller, opened_controller, credited}

abbrev pub at_controller : Change → ControllerEnd → ControllerEnd
at_controller stays c = c
at_controller (opens t) c = opened_controller t
at_controller closes c = closed_controller
at_controller (gives n) c = c

abbrev pub at_host : Change → HostEnd → HostEnd
at_host stays h = h
at_host (opens t) h = opened_host t
at_host closes h = closed_host
at_host (gives n) h = credited n h

-- What is kept of a line while its script is read: its events, before they have places.
use Rattle.std.specs.Prelude.{List, [], ◌∷◌, ◌++◌, map}
use Rattle.script_text.specs.declared.script.Event.{Event}
use Rattle.script_text.specs.declared.script.Event.TheVariants.{Byte}
use Rattle.script_text.specs.declared.command.Command.{Command}
use Rattle.script_text.specs.declared.command.Command.TheVariants.{Nothing, One, Keys}

abbrev pub events_of : Command → List Event
events_of Nothing = []
events_of (One event) = event ∷ []
events_of (Keys text) = map Byte text.now ++ Byte 0o015 ∷ []

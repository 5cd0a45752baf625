-- What the ports turn events into, and the flow of a sheet run.
use Rattle.std.specs.Prelude.{List, Some, None, Option}
use Rattle.events.specs.declared.sheet.SheetEvent.{SheetEvent}
use Rattle.events.specs.declared.sheet.SheetEvent.TheVariants.{Struck, LineEnd, SheetEnd}
use Rattle.events.specs.declared.word.MachineEvent.{MachineEvent}
use Rattle.events.specs.declared.machine.Action.{Action}
use Rattle.events.specs.declared.machine.Action.TheVariants.{Strike, FeedLine, FeedSheet, Park, Jam, Cover}
use Rattle.events.specs.Cells.{blank}
use Rattle.events.specs.Machines.{action_of}
use Rattle.observers.specs.Turned.{turned}

-- a cell to itself, a line end to a blank, a sheet end to none
abbrev pub flowing : SheetEvent → Option SheetEvent
flowing (Struck c) = Some (Struck c)
flowing LineEnd = Some (Struck blank)
flowing SheetEnd = None

-- a sheet run's flow: its cells in order, a blank for each line end, nothing for a sheet end
abbrev pub flow : List SheetEvent → List SheetEvent
flow run = turned flowing run

-- what an action of the machine does to the sheet
abbrev pub on_sheet : Action → Option SheetEvent
on_sheet (Strike c) = Some (Struck c)
on_sheet FeedLine = Some LineEnd
on_sheet FeedSheet = Some SheetEnd
on_sheet Park = None
on_sheet Jam = None
on_sheet Cover = None

-- a strike to its cell, a feed to a line or sheet end, the rest to none
abbrev pub hammered : MachineEvent → Option SheetEvent
hammered e = on_sheet (action_of e)

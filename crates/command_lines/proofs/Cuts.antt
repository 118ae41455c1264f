-- What a line's next byte, or the input's end, makes of what has been read.
use Rattle.command_lines.specs.Cut.{cut-end, cut_line, cut-tab, cut-byte, onward-byte}

pub ruleset cuts = (cut-end, cut_line, cut-tab, cut-byte)

-- a field's byte
pub ruleset onward = (onward-byte)

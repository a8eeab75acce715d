-- What a reader has left, and what one step of it says.
use Rattle.std.specs.Prelude.{drop, if◌then◌else◌}
use Rattle.command_line.specs.declared.reader.Reader.{Reader}
use Rattle.command_line.specs.declared.reading.Said.{Said}
use Rattle.command_line.specs.declared.reading.Said.TheVariants as said
use Rattle.command_line.specs.declared.reading.Step.{Step}
use Rattle.command_line.specs.declared.reading.Step.TheVariants as step
use Rattle.command_line.specs.Reading.{State, Ended, Reading, Done, Fails, Given, Other, letters_read, words_read}

-- the words from the reader's next one on
unfoldable pub left_words : Reader → State → Reading
left_words r state = words_read r.tool state r.at (drop r.at r.words.now)

unfoldable pub left : Reader → Reading
left r = if r.ended then left_words r Ended else letters_read r.tool r.word r.letters.now (left_words r)

abbrev pub with_said : Said → Reading → Reading
with_said (said.Given word option value) later = Given word option value.now later
with_said (said.Other word text) later = Other word text.now later

-- what a step says, and behind it what the reader has left
abbrev pub seen : Step → Reading
seen step.Ends = Done
seen (step.Fails fault) = Fails fault.word fault.kind
seen (step.Says what reader) = with_said what (left reader)

-- Rows by hand: a script's text and its transcript, and texts that are no scripts.
use Rattle.std.specs.Prelude.{◌≡◌, ℕ, List, [], ◌∷◌, flat_map, codes, Ok, Err}
use Rattle.swap_base.specs.declared.Field.TheVariants.{PageBytes}
use Rattle.swap_script.specs.declared.Why.{Why}
use Rattle.swap_script.specs.declared.Why.TheVariants as why
use Rattle.swap_script.specs.Lines.{with_line_end}
use Rattle.swap_run.specs.Run.{output_of}

abbrev text : List (List ℕ) → List ℕ
text lines = flat_map with_line_end lines

-- the script's lines give the transcript's lines
abbrev Gives : List (List ℕ) → List (List ℕ) → Type 0
Gives lines printed = output_of (text lines) ≡ Ok (text printed)

abbrev Refuses : List ℕ → ℕ → Why → Type 0
Refuses bytes n w = output_of bytes ≡ Err (record { line = n; why = w })

abbrev pub HeaderAlone : Type 0
HeaderAlone =
    Gives
    (codes "geometry 8 4 2 4 2 4 20" ∷ [])
    (codes "geometry 8 4 2 4 2 4 20" ∷ codes "end 0" ∷ [])

abbrev pub ZerosBeforeAnyPageOut : Type 0
ZerosBeforeAnyPageOut =
    Gives
    (codes "geometry 8 4 2 4 2 4 20" ∷ codes "in 0 5" ∷ [])
    (codes "geometry 8 4 2 4 2 4 20" ∷ codes "in 0 5 = entry 0 in 5 of none zero 00" ∷ codes "end 1" ∷ [])

abbrev pub PageInOfTheLastPage : Type 0
PageInOfTheLastPage =
    Gives
    (codes "geometry 8 4 2 4 2 4 20" ∷ codes "in 0 7" ∷ [])
    (codes "geometry 8 4 2 4 2 4 20" ∷ codes "in 0 7 = entry 0 in 7 of none zero 00" ∷ codes "end 1" ∷ [])

abbrev pub PageInFromTheQueue : Type 0
PageInFromTheQueue =
    Gives
    (codes "geometry 8 4 2 4 2 4 20" ∷ codes "out 0 3 aa" ∷ codes "in 0 3" ∷ [])
    (codes "geometry 8 4 2 4 2 4 20" ∷ codes "out 0 3 = entry 0 out 3 aa" ∷ codes "in 0 3 = entry 1 in 3 of 0 queue aa"
    ∷ codes "end 2" ∷ [])

abbrev pub PageInFromTheDisk : Type 0
PageInFromTheDisk =
    Gives
    (codes "geometry 8 4 2 4 2 4 20" ∷ codes "out 0 3 aa" ∷ codes "start" ∷ codes "disk write 3 ok" ∷ codes "in 0 3"
    ∷ codes "disk read 0 ok" ∷ codes "finish 0" ∷ [])
    (codes "geometry 8 4 2 4 2 4 20" ∷ codes "out 0 3 = entry 0 out 3 aa" ∷ codes "start = write 3 0"
    ∷ codes "disk write 3 ok = written 0" ∷ codes "in 0 3 = wait disk" ∷ codes "disk read 0 ok = came 3"
    ∷ codes "finish 0 = entry 1 in 3 of 0 disk aa" ∷ codes "end 2" ∷ [])

abbrev pub SecondPageOutReplacesTheCopyInAQueueOfOne : Type 0
SecondPageOutReplacesTheCopyInAQueueOfOne =
    Gives
    (codes "geometry 8 4 2 1 2 4 20" ∷ codes "out 0 3 aa" ∷ codes "out 0 3 bb" ∷ codes "start" ∷ codes "disk write 3 ok"
    ∷ codes "start" ∷ [])
    (codes "geometry 8 4 2 1 2 4 20" ∷ codes "out 0 3 = entry 0 out 3 aa" ∷ codes "out 0 3 = entry 1 out 3 bb"
    ∷ codes "start = write 3 1" ∷ codes "disk write 3 ok = written 1" ∷ codes "start = -" ∷ codes "end 2" ∷ [])

abbrev pub PageOutWhileTheOlderCopyIsBeingWritten : Type 0
PageOutWhileTheOlderCopyIsBeingWritten =
    Gives
    (codes "geometry 8 4 2 2 2 4 20" ∷ codes "out 0 3 aa" ∷ codes "start" ∷ codes "out 0 3 bb" ∷ codes "disk write 3 ok"
    ∷ codes "in 1 3" ∷ codes "start" ∷ [])
    (codes "geometry 8 4 2 2 2 4 20" ∷ codes "out 0 3 = entry 0 out 3 aa" ∷ codes "start = write 3 0"
    ∷ codes "out 0 3 = entry 1 out 3 bb" ∷ codes "disk write 3 ok = written 0"
    ∷ codes "in 1 3 = entry 2 in 3 of 1 queue bb" ∷ codes "start = write 3 1" ∷ codes "end 3" ∷ [])

abbrev pub PageOutWithoutRoomFailsWhereAWriteFailed : Type 0
PageOutWithoutRoomFailsWhereAWriteFailed =
    Gives
    (codes "geometry 8 4 2 1 2 4 20" ∷ codes "out 0 1 aa" ∷ codes "start" ∷ codes "out 1 2 bb"
    ∷ codes "disk write 1 bad" ∷ codes "finish 1" ∷ codes "in 0 1" ∷ [])
    (codes "geometry 8 4 2 1 2 4 20" ∷ codes "out 0 1 = entry 0 out 1 aa" ∷ codes "start = write 1 0"
    ∷ codes "out 1 2 = room" ∷ codes "disk write 1 bad = kept 0" ∷ codes "finish 1 = entry 1 fault out 2 0 1 bb"
    ∷ codes "in 0 1 = entry 2 in 1 of 0 queue aa" ∷ codes "end 3" ∷ [])

abbrev pub CallerWaitsForRoom : Type 0
CallerWaitsForRoom =
    Gives
    (codes "geometry 8 4 2 1 2 4 20" ∷ codes "out 0 1 aa" ∷ codes "start" ∷ codes "out 1 2 bb" ∷ codes "in 1 3"
    ∷ codes "finish 0" ∷ codes "finish 1" ∷ codes "disk write 1 ok" ∷ codes "finish 1" ∷ [])
    (codes "geometry 8 4 2 1 2 4 20" ∷ codes "out 0 1 = entry 0 out 1 aa" ∷ codes "start = write 1 0"
    ∷ codes "out 1 2 = room" ∷ codes "in 1 3 = busy" ∷ codes "finish 0 = idle" ∷ codes "finish 1 = room"
    ∷ codes "disk write 1 ok = written 0" ∷ codes "finish 1 = entry 1 out 2 bb" ∷ codes "end 2" ∷ [])

abbrev pub FailedDiskReadFailsThePageIn : Type 0
FailedDiskReadFailsThePageIn =
    Gives
    (codes "geometry 8 4 2 4 2 4 20" ∷ codes "out 0 3 aa" ∷ codes "start" ∷ codes "disk write 3 ok" ∷ codes "in 0 3"
    ∷ codes "disk read 0 bad" ∷ codes "finish 0" ∷ [])
    (codes "geometry 8 4 2 4 2 4 20" ∷ codes "out 0 3 = entry 0 out 3 aa" ∷ codes "start = write 3 0"
    ∷ codes "disk write 3 ok = written 0" ∷ codes "in 0 3 = wait disk" ∷ codes "disk read 0 bad = failed 3"
    ∷ codes "finish 0 = entry 1 fault in 3 0 1" ∷ codes "end 2" ∷ [])

abbrev pub FailedDiskReadWithANewerPageOut : Type 0
FailedDiskReadWithANewerPageOut =
    Gives
    (codes "geometry 8 4 2 4 2 4 20" ∷ codes "out 0 3 aa" ∷ codes "start" ∷ codes "disk write 3 ok" ∷ codes "in 0 3"
    ∷ codes "disk read 0 bad" ∷ codes "out 1 3 bb" ∷ codes "finish 0" ∷ [])
    (codes "geometry 8 4 2 4 2 4 20" ∷ codes "out 0 3 = entry 0 out 3 aa" ∷ codes "start = write 3 0"
    ∷ codes "disk write 3 ok = written 0" ∷ codes "in 0 3 = wait disk" ∷ codes "disk read 0 bad = failed 3"
    ∷ codes "out 1 3 = entry 1 out 3 bb" ∷ codes "finish 0 = entry 2 in 3 of 1 queue bb" ∷ codes "end 3" ∷ [])

abbrev pub ReadOvertakenByAPageOutAlreadyOnTheDisk : Type 0
ReadOvertakenByAPageOutAlreadyOnTheDisk =
    Gives
    (codes "geometry 8 4 2 4 2 4 20" ∷ codes "out 0 3 aa" ∷ codes "start" ∷ codes "disk write 3 ok" ∷ codes "in 0 3"
    ∷ codes "out 1 3 bb" ∷ codes "start" ∷ codes "disk read 0 ok" ∷ codes "disk write 3 ok" ∷ codes "finish 0"
    ∷ codes "disk read 0 ok" ∷ codes "finish 0" ∷ [])
    (codes "geometry 8 4 2 4 2 4 20" ∷ codes "out 0 3 = entry 0 out 3 aa" ∷ codes "start = write 3 0"
    ∷ codes "disk write 3 ok = written 0" ∷ codes "in 0 3 = wait disk" ∷ codes "out 1 3 = entry 1 out 3 bb"
    ∷ codes "start = write 3 1" ∷ codes "disk read 0 ok = came 3" ∷ codes "disk write 3 ok = written 1"
    ∷ codes "finish 0 = again disk" ∷ codes "disk read 0 ok = came 3" ∷ codes "finish 0 = entry 2 in 3 of 1 disk bb"
    ∷ codes "end 3" ∷ [])

abbrev pub PageInFromALender : Type 0
PageInFromALender =
    Gives
    (codes "geometry 8 4 2 4 2 4 20" ∷ codes "lender 4 1 1" ∷ codes "connect 0" ∷ codes "map 0 0" ∷ codes "give 0"
    ∷ codes "give 0" ∷ codes "take 0" ∷ codes "out 0 3 aa" ∷ codes "give 0" ∷ codes "take 0" ∷ codes "start"
    ∷ codes "disk write 3 ok" ∷ codes "in 0 3" ∷ codes "give 0" ∷ codes "take 0" ∷ codes "finish 0" ∷ [])
    (codes "geometry 8 4 2 4 2 4 20" ∷ codes "lender 4 1 1" ∷ codes "connect 0 = link 0" ∷ codes "map 0 0 = borrow"
    ∷ codes "give 0 = hello 1" ∷ codes "give 0 = borrow 0 > lent 0 0" ∷ codes "take 0 = lent 0 0"
    ∷ codes "out 0 3 = entry 0 out 3 aa to 0" ∷ codes "give 0 = write 0 3 > wrote 0 3" ∷ codes "take 0 = wrote 0 3"
    ∷ codes "start = write 3 0" ∷ codes "disk write 3 ok = written 0" ∷ codes "in 0 3 = wait lender 0"
    ∷ codes "give 0 = read 0 3 > page 0 3" ∷ codes "take 0 = page 0 3"
    ∷ codes "finish 0 = entry 1 in 3 of 0 lender 0 aa" ∷ codes "end 2" ∷ [])

abbrev pub PageOutBetweenRequestAndReplyOfARead : Type 0
PageOutBetweenRequestAndReplyOfARead =
    Gives
    (codes "geometry 8 4 2 4 2 4 20" ∷ codes "lender 4 1 1" ∷ codes "connect 0" ∷ codes "map 0 0" ∷ codes "give 0"
    ∷ codes "give 0" ∷ codes "take 0" ∷ codes "out 0 3 aa" ∷ codes "give 0" ∷ codes "take 0" ∷ codes "start"
    ∷ codes "disk write 3 ok" ∷ codes "in 0 3" ∷ codes "out 1 3 bb" ∷ codes "give 0" ∷ codes "take 0"
    ∷ codes "finish 0" ∷ [])
    (codes "geometry 8 4 2 4 2 4 20" ∷ codes "lender 4 1 1" ∷ codes "connect 0 = link 0" ∷ codes "map 0 0 = borrow"
    ∷ codes "give 0 = hello 1" ∷ codes "give 0 = borrow 0 > lent 0 0" ∷ codes "take 0 = lent 0 0"
    ∷ codes "out 0 3 = entry 0 out 3 aa to 0" ∷ codes "give 0 = write 0 3 > wrote 0 3" ∷ codes "take 0 = wrote 0 3"
    ∷ codes "start = write 3 0" ∷ codes "disk write 3 ok = written 0" ∷ codes "in 0 3 = wait lender 0"
    ∷ codes "out 1 3 = entry 1 out 3 bb to 0" ∷ codes "give 0 = read 0 3 > page 0 3" ∷ codes "take 0 = page 0 3"
    ∷ codes "finish 0 = entry 2 in 3 of 1 queue bb" ∷ codes "end 3" ∷ [])

abbrev pub PageOutIntoAFullWindowLeavesTheBitClear : Type 0
PageOutIntoAFullWindowLeavesTheBitClear =
    Gives
    (codes "geometry 8 4 2 4 2 1 20" ∷ codes "lender 4 1 1" ∷ codes "connect 0" ∷ codes "map 0 0" ∷ codes "give 0"
    ∷ codes "give 0" ∷ codes "take 0" ∷ codes "out 0 3 aa" ∷ codes "out 0 3 bb" ∷ codes "give 0" ∷ codes "take 0"
    ∷ codes "start" ∷ codes "disk write 3 ok" ∷ codes "in 0 3" ∷ codes "disk read 0 ok" ∷ codes "finish 0" ∷ [])
    (codes "geometry 8 4 2 4 2 1 20" ∷ codes "lender 4 1 1" ∷ codes "connect 0 = link 0" ∷ codes "map 0 0 = borrow"
    ∷ codes "give 0 = hello 1" ∷ codes "give 0 = borrow 0 > lent 0 0" ∷ codes "take 0 = lent 0 0"
    ∷ codes "out 0 3 = entry 0 out 3 aa to 0" ∷ codes "out 0 3 = entry 1 out 3 bb"
    ∷ codes "give 0 = write 0 3 > wrote 0 3" ∷ codes "take 0 = wrote 0 3" ∷ codes "start = write 3 1"
    ∷ codes "disk write 3 ok = written 1" ∷ codes "in 0 3 = wait disk" ∷ codes "disk read 0 ok = came 3"
    ∷ codes "finish 0 = entry 2 in 3 of 1 disk bb" ∷ codes "end 3" ∷ [])

abbrev pub LossAfterTheReplyWasSent : Type 0
LossAfterTheReplyWasSent =
    Gives
    (codes "geometry 8 4 2 4 2 4 20" ∷ codes "lender 4 1 1" ∷ codes "connect 0" ∷ codes "map 0 0"
    ∷ codes "give 0" ∷ codes "give 0" ∷ codes "take 0" ∷ codes "out 0 3 aa" ∷ codes "give 0" ∷ codes "take 0"
    ∷ codes "start" ∷ codes "disk write 3 ok" ∷ codes "in 0 3" ∷ codes "give 0" ∷ codes "cut 0 0 1"
    ∷ codes "take 0" ∷ codes "take 0" ∷ codes "finish 0" ∷ [])
    (codes "geometry 8 4 2 4 2 4 20" ∷ codes "lender 4 1 1" ∷ codes "connect 0 = link 0"
    ∷ codes "map 0 0 = borrow" ∷ codes "give 0 = hello 1" ∷ codes "give 0 = borrow 0 > lent 0 0"
    ∷ codes "take 0 = lent 0 0" ∷ codes "out 0 3 = entry 0 out 3 aa to 0"
    ∷ codes "give 0 = write 0 3 > wrote 0 3" ∷ codes "take 0 = wrote 0 3" ∷ codes "start = write 3 0"
    ∷ codes "disk write 3 ok = written 0" ∷ codes "in 0 3 = wait lender 0"
    ∷ codes "give 0 = read 0 3 > page 0 3" ∷ codes "cut 0 0 1 = cut" ∷ codes "take 0 = page 0 3"
    ∷ codes "take 0 = lost" ∷ codes "finish 0 = entry 1 in 3 of 0 lender 0 aa" ∷ codes "end 2" ∷ [])

abbrev pub LossOfTheReplySendsTheReadToTheDisk : Type 0
LossOfTheReplySendsTheReadToTheDisk =
    Gives
    (codes "geometry 8 4 2 4 2 4 20" ∷ codes "lender 4 1 1" ∷ codes "connect 0" ∷ codes "map 0 0"
    ∷ codes "give 0" ∷ codes "give 0" ∷ codes "take 0" ∷ codes "out 0 3 aa" ∷ codes "give 0" ∷ codes "take 0"
    ∷ codes "start" ∷ codes "disk write 3 ok" ∷ codes "in 0 3" ∷ codes "give 0" ∷ codes "cut 0 0 0"
    ∷ codes "take 0" ∷ codes "finish 0" ∷ codes "disk read 0 ok" ∷ codes "finish 0" ∷ [])
    (codes "geometry 8 4 2 4 2 4 20" ∷ codes "lender 4 1 1" ∷ codes "connect 0 = link 0"
    ∷ codes "map 0 0 = borrow" ∷ codes "give 0 = hello 1" ∷ codes "give 0 = borrow 0 > lent 0 0"
    ∷ codes "take 0 = lent 0 0" ∷ codes "out 0 3 = entry 0 out 3 aa to 0"
    ∷ codes "give 0 = write 0 3 > wrote 0 3" ∷ codes "take 0 = wrote 0 3" ∷ codes "start = write 3 0"
    ∷ codes "disk write 3 ok = written 0" ∷ codes "in 0 3 = wait lender 0"
    ∷ codes "give 0 = read 0 3 > page 0 3" ∷ codes "cut 0 0 0 = cut" ∷ codes "take 0 = lost"
    ∷ codes "finish 0 = again disk" ∷ codes "disk read 0 ok = came 3"
    ∷ codes "finish 0 = entry 1 in 3 of 0 disk aa" ∷ codes "end 2" ∷ [])

abbrev pub CrashWithTheLossUnread : Type 0
CrashWithTheLossUnread =
    Gives
    (codes "geometry 8 4 2 4 2 4 20" ∷ codes "lender 4 1 1" ∷ codes "connect 0" ∷ codes "map 0 0"
    ∷ codes "give 0" ∷ codes "give 0" ∷ codes "take 0" ∷ codes "out 0 3 aa" ∷ codes "give 0" ∷ codes "take 0"
    ∷ codes "start" ∷ codes "disk write 3 ok" ∷ codes "crash 0" ∷ codes "in 0 3" ∷ codes "connect 0"
    ∷ codes "finish 0" ∷ codes "map 0 0" ∷ codes "give 0" ∷ codes "give 0" ∷ codes "take 0"
    ∷ codes "disk read 0 ok" ∷ codes "finish 0" ∷ [])
    (codes "geometry 8 4 2 4 2 4 20" ∷ codes "lender 4 1 1" ∷ codes "connect 0 = link 0"
    ∷ codes "map 0 0 = borrow" ∷ codes "give 0 = hello 1" ∷ codes "give 0 = borrow 0 > lent 0 0"
    ∷ codes "take 0 = lent 0 0" ∷ codes "out 0 3 = entry 0 out 3 aa to 0"
    ∷ codes "give 0 = write 0 3 > wrote 0 3" ∷ codes "take 0 = wrote 0 3" ∷ codes "start = write 3 0"
    ∷ codes "disk write 3 ok = written 0" ∷ codes "crash 0 = crashed" ∷ codes "in 0 3 = wait lender 0"
    ∷ codes "connect 0 = link 1" ∷ codes "finish 0 = again disk" ∷ codes "map 0 0 = borrow"
    ∷ codes "give 0 = hello 1" ∷ codes "give 0 = borrow 0 > lent 0 0" ∷ codes "take 0 = lent 0 0"
    ∷ codes "disk read 0 ok = came 3" ∷ codes "finish 0 = entry 1 in 3 of 0 disk aa" ∷ codes "end 2" ∷ [])

abbrev pub LinksAreCutAndMadeAnew : Type 0
LinksAreCutAndMadeAnew =
    Gives
    (codes "geometry 8 4 2 4 2 4 20" ∷ codes "lender 4 1 1" ∷ codes "lender 4 1 1" ∷ codes "cut 1 0 0"
    ∷ codes "crash 1" ∷ codes "connect 0" ∷ codes "connect 1" ∷ codes "map 0 1" ∷ codes "cut 1 1 0"
    ∷ codes "cut 1 1 0" ∷ codes "give 1" ∷ codes "give 1" ∷ codes "take 1" ∷ codes "connect 1" ∷ codes "map 0 1"
    ∷ codes "give 1" ∷ codes "give 1" ∷ codes "take 1" ∷ codes "map 1 0" ∷ codes "out 0 3 aa"
    ∷ codes "out 0 7 bb" ∷ codes "crash 0" ∷ codes "take 0" ∷ codes "connect 0" ∷ codes "map 1 0" ∷ [])
    (codes "geometry 8 4 2 4 2 4 20" ∷ codes "lender 4 1 1" ∷ codes "lender 4 1 1" ∷ codes "cut 1 0 0 = -"
    ∷ codes "crash 1 = crashed" ∷ codes "connect 0 = link 0" ∷ codes "connect 1 = link 1"
    ∷ codes "map 0 1 = borrow" ∷ codes "cut 1 1 0 = cut" ∷ codes "cut 1 1 0 = -" ∷ codes "give 1 = hello 1"
    ∷ codes "give 1 = end" ∷ codes "take 1 = lost" ∷ codes "connect 1 = link 2" ∷ codes "map 0 1 = borrow"
    ∷ codes "give 1 = hello 1" ∷ codes "give 1 = borrow 0 > lent 0 0" ∷ codes "take 1 = lent 0 0"
    ∷ codes "map 1 0 = borrow" ∷ codes "out 0 3 = entry 0 out 3 aa to 1" ∷ codes "out 0 7 = entry 1 out 7 bb"
    ∷ codes "crash 0 = crashed" ∷ codes "take 0 = lost" ∷ codes "connect 0 = link 3" ∷ codes "map 1 0 = borrow"
    ∷ codes "end 2" ∷ [])

abbrev pub PatternIsPrintedShortest : Type 0
PatternIsPrintedShortest =
    Gives
    (codes "geometry 8 4 2 4 2 4 20" ∷ codes "out 0 0 0101" ∷ [])
    (codes "geometry 8 4 2 4 2 4 20" ∷ codes "out 0 0 = entry 0 out 0 01" ∷ codes "end 1" ∷ [])

abbrev pub EmptyText : Type 0
EmptyText = Refuses [] 1 why.Geometry

abbrev pub PageOutOfRange : Type 0
PageOutOfRange = Refuses (text (codes "geometry 8 4 2 4 2 4 20" ∷ codes "in 0 7" ∷ codes "in 0 8" ∷ [])) 3 why.Page

abbrev pub PageBytesNotAPowerOfTwo : Type 0
PageBytesNotAPowerOfTwo = Refuses (text (codes "geometry 12 4 2 4 2 4 20" ∷ [])) 1 (why.Field PageBytes)

abbrev pub PatternOfThreeBytes : Type 0
PatternOfThreeBytes = Refuses (text (codes "geometry 8 4 2 4 2 4 20" ∷ codes "out 0 0 aabbcc" ∷ [])) 2 why.Pattern

abbrev pub SpaceTooMany : Type 0
SpaceTooMany =
    Refuses (text (codes "# a comment" ∷ codes "" ∷ codes "geometry 8 4 2 4 2 4 20" ∷ codes "in  0 1" ∷ [])) 4 why.Form

abbrev pub CallerBeforePage : Type 0
CallerBeforePage = Refuses (text (codes "geometry 8 4 2 4 2 4 20" ∷ codes "in 2 9" ∷ [])) 2 why.Caller

-- the rows of page-outs and page-ins from zeros and the queue
abbrev pub QueueRows : Type 0
QueueRows =
    HeaderAlone × ZerosBeforeAnyPageOut × PageInOfTheLastPage × PageInFromTheQueue × PatternIsPrintedShortest

-- the rows of the disk
abbrev pub DiskRows : Type 0
DiskRows =
    PageInFromTheDisk × SecondPageOutReplacesTheCopyInAQueueOfOne × PageOutWhileTheOlderCopyIsBeingWritten
    × PageOutWithoutRoomFailsWhereAWriteFailed × CallerWaitsForRoom × FailedDiskReadFailsThePageIn
    × FailedDiskReadWithANewerPageOut × ReadOvertakenByAPageOutAlreadyOnTheDisk

-- the rows of a lender
abbrev pub LenderRows : Type 0
LenderRows = PageInFromALender × PageOutBetweenRequestAndReplyOfARead × PageOutIntoAFullWindowLeavesTheBitClear

-- the rows of links that are cut, ended by a crash and made anew
abbrev pub LinkRows : Type 0
LinkRows =
    LossAfterTheReplyWasSent × LossOfTheReplySendsTheReadToTheDisk × CrashWithTheLossUnread × LinksAreCutAndMadeAnew

-- the rows of texts that are no scripts
abbrev pub RefusedRows : Type 0
RefusedRows =
    EmptyText × PageOutOfRange × PageBytesNotAPowerOfTwo × PatternOfThreeBytes × SpaceTooMany × CallerBeforePage

abbrev pub HotSlabIsPlacedByARound : Type 0
HotSlabIsPlacedByARound =
    Gives
    (codes "geometry 8 4 2 4 2 4 1" ∷ codes "lender 4 1 1" ∷ codes "lender 6 1 1" ∷ codes "connect 0"
    ∷ codes "connect 1" ∷ codes "in 0 0" ∷ codes "in 0 0" ∷ codes "in 0 0" ∷ codes "in 0 0" ∷ codes "in 0 0"
    ∷ codes "round 0" ∷ codes "out 0 0 aa" ∷ [])
    (codes "geometry 8 4 2 4 2 4 1" ∷ codes "lender 4 1 1" ∷ codes "lender 6 1 1" ∷ codes "connect 0 = link 0"
    ∷ codes "connect 1 = link 1" ∷ codes "in 0 0 = entry 0 in 0 of none zero 00"
    ∷ codes "in 0 0 = entry 1 in 0 of none zero 00" ∷ codes "in 0 0 = entry 2 in 0 of none zero 00"
    ∷ codes "in 0 0 = entry 3 in 0 of none zero 00" ∷ codes "in 0 0 = entry 4 in 0 of none zero 00"
    ∷ codes "round 0 = 9 mapped 1" ∷ codes "out 0 0 = entry 5 out 0 aa to 1" ∷ codes "end 6" ∷ [])

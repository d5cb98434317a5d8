use Rattle.omi_frame.proofs.put.end_with.Goals as goal

pub returns-in-Ok : goal.returns-in-Ok
returns-in-Ok g c =
    rw c.in-Ok.is
    (record {
      status_is = c.print.ensures.status;
      success = λ done. rw (← c.deref.ensures.value) (c.print.ensures.success done);
      cut = rw (← c.deref.ensures.value) c.print.ensures.cut;
      faults = c.print.ensures.cause;
      wants = c.print.ensures.want;
    })

pub returns-in-Err : goal.returns-in-Err
returns-in-Err g c =
    rw c.in-Err.is
    (record {
      status_is = c.refuse.ensures.status;
      line = c.refuse.ensures.line;
      faults = c.refuse.ensures.faults;
      wants = c.refuse.ensures.wants;
    })
